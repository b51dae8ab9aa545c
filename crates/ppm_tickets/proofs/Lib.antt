-- How the laws are shown. The proof stands on the standings and rows of `ppm_step`; what is simpler
-- is the words alone, by spots (`ViewLemmas`). A row under way has found a list of words, and what
-- is left of it and what it knows by them are recursions on that list (`specs/Saw`, `SeenLemmas`).
-- Frames' rows need no list: they write no spot (`QuietLemmas`).
-- The invariant is kept by effects, each one write or install: `WriteLemmas`, `CarrierLemmas`,
-- `DequeLemmas`, `EffectLemmas`, `EstateLemmas` (closed places), `OrderLemmas`, `HoldingLemmas`,
-- `CountLemmas`, `HeirLemmas`.
-- Rows position by position: `StepLemmas` (any row), `OwnRows` (push, pop), `ThiefRows` (seek,
-- steal, check), `TakeRows`, `FollowRows` (chains of closed places), `EntryRows`. Then all acts
-- (`ActLemmas`), lists in the order of the run (`ListLemmas`), `Theorem`, `RenewalLemmas`.
-- `WalkLemmas` says what any row stores and exchanges; on it alone stand `EntryLemmas` and
-- `PlaceLemmas`, which need no invariant.

pub mod WriteLemmas
pub mod SeenLemmas
pub mod ViewLemmas
pub mod QuietLemmas
pub mod CarrierLemmas
pub mod DequeLemmas
pub mod EffectLemmas
pub mod EstateLemmas
pub mod OrderLemmas
pub mod HoldingLemmas
pub mod CountLemmas
pub mod HeirLemmas
pub mod StepLemmas
pub mod OwnRows
pub mod FollowRows
pub mod ThiefRows
pub mod HeirRows
pub mod TakingRows
pub mod TakeRows
pub mod EntryRows
pub mod ActLemmas
pub mod ListLemmas
pub mod Theorem
pub mod FollowedLemmas
pub mod RenewalLemmas
pub mod ImageLemmas
pub mod WalkLemmas
pub mod EntryLemmas
pub mod PlaceLemmas
