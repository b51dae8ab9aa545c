-- How the laws are shown. What the changes of skeletons do to a tree that advances is `AdvanceLemmas`, part by part: a part that advanced
-- does so still, and a leaf of no place stays one (`Keeps`). `TurnLemmas` takes a turn by the row of its place: what the order word says of
-- the branch beside (`ppm_frames`, `Good`) shows that a first arrival leaves the other branch running or waiting.

pub mod AdvanceLemmas
pub mod TurnLemmas
