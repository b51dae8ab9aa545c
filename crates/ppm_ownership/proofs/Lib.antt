-- How the laws are shown. One relation, `ComesTo`, says where a run may stand, with a constructor
-- for each way on, whatever arrays and locals are.
-- One record (`Origin`) says that a region comes from another, for split, `each`, call and fork.
-- Locality is "where words were the same before, they are the same after", for every word and
-- not only those owned: so it composes rule by rule.
-- Two runs commute word by word, by cases on whether a value changed (`SwapLemmas`,
-- `StretchLemmas`). Wherever a run is stopped is such a position (`PositionLemmas`).

pub mod ScopeLemmas
pub mod PartLemmas
pub mod SplitLemmas
pub mod LendLemmas
pub mod CallLemmas
pub mod EntryLemmas
pub mod ComingLemmas
pub mod WordLemmas
pub mod ExpressionLemmas
pub mod ChangeLemmas
pub mod LocalLemmas
pub mod PositionLemmas
pub mod StretchLemmas
pub mod SwapLemmas
pub mod Theorem
