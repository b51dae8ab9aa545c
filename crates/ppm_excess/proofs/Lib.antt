pub mod ExcessLemmas
