-- How the laws are shown. A packing is a list of fields of bits; one lemma says that each field is
-- read again where it lies (`FieldsLemmas`), and one that a reading which packs again to the same
-- word is exact (`ExactLemmas`).
-- Addresses of eleven kinds of cells differ by a function from addresses back to cells, a case a
-- kind, and not by pairs.
-- `DequeLemmas` and `HoldLemmas`: the tag rises with each change, so nothing comes back.

pub mod FieldsLemmas
pub mod ExactLemmas
pub mod EntryLemmas
pub mod HolderLemmas
pub mod RegionLemmas
pub mod RestartLemmas
pub mod LinkLemmas
pub mod FinishLemmas
pub mod CellLemmas
pub mod MemoryLemmas
pub mod JoinLemmas
pub mod DequeLemmas
pub mod TransitionLemmas
pub mod HoldLemmas
