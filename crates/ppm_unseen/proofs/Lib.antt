-- How the laws are shown. Each strand that has faults has a run without faults beside it, along one
-- history (`BesideLemmas`, `ReplayLemmas`); then induction on the history (`InvisibleLemmas`). What
-- a capsule keeps and goes through again stands in `OwnLemmas` and `WayLemmas`. Strands along one
-- history make a run of all (`TogetherLemmas`). The small systems are read off by what a path can
-- still do (`SingleLemmas`, `TwoLemmas`, `NeededLemmas`,
-- `FillingLemmas`, `ClaimLemmas`).

pub mod BesideLemmas
pub mod CalmLemmas
pub mod ClaimLemmas
pub mod FillingLemmas
pub mod InvisibleLemmas
pub mod NeededLemmas
pub mod OwnLemmas
pub mod ReplayLemmas
pub mod SingleLemmas
pub mod TogetherLemmas
pub mod TwoLemmas
pub mod WayLemmas
