pub mod ResumedLemmas
