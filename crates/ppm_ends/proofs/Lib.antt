-- How the laws are shown. An end's stores are told by their offsets in the block (`SplitLemmas`),
-- and no tree that an end opens has such a word (`TailLemmas`); so capsules with them are the same
-- code, and two strands beside each other may have different ones (`BesideLemmas`).
-- `WordLemmas` follows the machine's words through the stores, `Theorem` reads the tree off them,
-- and `WholeLemmas` has the premises from a whole capsule of a tidy code.

pub mod BesideLemmas
pub mod SampleLemmas
pub mod SplitLemmas
pub mod TailLemmas
pub mod Theorem
pub mod WholeLemmas
pub mod WordLemmas
