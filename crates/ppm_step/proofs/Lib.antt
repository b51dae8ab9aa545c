-- How the step is shown. Rows are data (`Row`, `Then`, `Point`), on which definitions and contracts
-- match arm by arm: most functions of rows prove with no file, by two clauses, the value and that
-- its numbers fit (`IsRow`).
-- What a load leads to is split by what the word stands for (`found_number`, `found_entry`, ..),
-- each a match on the point with a last arm `broken()`.
-- The test of a bound stands at one place, where a processor comes to stand (`stand_with`,
-- `stand_then`), and gives an equation of Bools that `ThereLemmas` turns into an address or a
-- packing that fits.
-- By hand: the end that register work comes to names a line (`EndLemmas`, by the tree of the
-- capsule), the stores of an end one by one (`StoringLemmas`), a capsule begins (`EnterLemmas`).
-- Laws of runs: `Spares` of `StandLemmas` is the invariant of standings, kept by each act
-- (`ActLemmas`); "not done" stands in it as the empty type at `IsDone`. From it `FinishLemmas`,
-- `QuitLemmas` and `RoomLemmas`. That a processor stands where its record leads it is
-- `RecordLemmas`.
-- What capsules may write is one family over a type `Built` (no block, or any), so plain capsules
-- and those after `room` are one set of lemmas (`PlainLemmas`).

pub mod EndLemmas
pub mod ThereLemmas
pub mod StoringLemmas
pub mod EnterLemmas
pub mod PlainLemmas
pub mod ContentLemmas
pub mod SparingLemmas
pub mod RestLemmas
pub mod StandLemmas
pub mod WordLemmas
pub mod ActLemmas
pub mod FinishLemmas
pub mod RoomLemmas
pub mod NextLemmas
pub mod QuitLemmas
pub mod VictimLemmas
pub mod RecordLemmas
pub mod HeaderLemmas
pub mod RowedLemmas
pub mod FilledLemmas
