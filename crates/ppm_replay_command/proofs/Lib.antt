-- How replays are shown. `replay` rests on `follow` of `ppm_following`; that a text has one answer, and that it is as its code, the lemmas of
-- `ppm_outcomes` show, and the rows follow (`OfReplay`). `replay` of a case is shown likewise (`OneReplayCase`, `OfReplayCase`).
-- Where the counts of a replay are told, its answer is the one without them, and they are those of its turns (`CountedLemmas`, and `ppm_trace`);
-- so its laws (`OneCounted`) and its rows (`OfCounted`, `OfCountedCase`) are those of `replay`. What the processors of a run count together is what a
-- trace counts (`AsTraced`).
-- A replay without hard faults that has made all its acts needs more of them (`UnfinishedLemmas`, `ActsAmong`); so with acts and room enough it ends
-- (`CompleteReplay`), also where it is counted (`CountedComplete`).

pub mod OfReplay
pub mod OneReplayCase
pub mod OfReplayCase
mod GoneOnLemmas
mod GoingMarks
mod AsTraced
pub mod CountedLemmas
pub mod OneCounted
pub mod OfCounted
pub mod OfCountedCase
pub mod ActsAmong
pub mod UnfinishedLemmas
pub mod CompleteReplay
pub mod CountedComplete
