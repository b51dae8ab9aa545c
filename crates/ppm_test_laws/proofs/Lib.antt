pub mod ClearsLemmas
pub mod ConstantLemmas
pub mod CopiesLemmas
pub mod RaceLemmas
pub mod SampleLemmas
pub mod StopsLemmas
