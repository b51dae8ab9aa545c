-- How the laws are shown. No second machine: rows, and where a place then stands, are `row_of`,
-- `found_at`, `went_row`, `went_rest` of `ppm_step`.
-- A capsule under way is one that is closed by the stores of its end into its block (`FitsLemmas`,
-- `OfLemmas`, `RunLemmas`), so that the laws of `ppm_strands` apply as they are; `BlockLemmas`
-- says what then stands.
-- Rows go down `Reach` by the options that their loads find. One record says what a step has to
-- show (`BuildLemmas`), and `PlaceLemmas` what a place has at its leaf; then `RunRow`, `BumpRow`,
-- `UnwindRow`, `PushRows`, `ArriveRow`, `JoinRow`, `JoinLastRow`, `TakeRow`. Of branches that no
-- place runs it has to show `Unrun` (`BranchLemmas`).
-- What the others keep: a step writes words of its own part, free words or an order word
-- (`WroteLemmas`, `ClaimLemmas`), and all that another place has done is of other words
-- (`NearLemmas`, `NodeLemmas`, `StayLemmas`, `SameRowLemmas`; `OtherLemmas`, by kinds).

pub mod FitsLemmas
pub mod OfLemmas
pub mod RunLemmas
pub mod BlockLemmas
pub mod PutLemmas
pub mod OwnerLemmas
pub mod EndingLemmas
pub mod UntakenLemmas
pub mod BranchLemmas
pub mod BuildLemmas
pub mod PlaceLemmas
pub mod ForkedLemmas
pub mod RunRow
pub mod BumpRow
pub mod TurnLemmas
pub mod OpeningLemmas
pub mod ImageLemmas
pub mod IdleLemmas
pub mod NearLemmas
pub mod NodeLemmas
pub mod SilentLemmas
pub mod StayLemmas
pub mod SameRowLemmas
pub mod WroteLemmas
pub mod JoiningLemmas
pub mod OtherLemmas
pub mod Rows
pub mod CopyLemmas
pub mod UnwindRow
pub mod ClaimLemmas
pub mod PushRows
pub mod ExchangeLemmas
pub mod ArriveRow
pub mod JoinRow
pub mod JoinValueLemmas
pub mod JoinLastLemmas
pub mod JoinLastRow
pub mod LookLemmas
pub mod TakeRow
pub mod SteadyLemmas
pub mod BumpEndLemmas
pub mod BirthLemmas
pub mod UnrunLemmas
pub mod FateLemmas
pub mod StateLemmas
pub mod BeginLemmas
pub mod LoadLemmas
pub mod OrderLemmas
pub mod LinkLemmas
pub mod StopLemmas
pub mod HandLemmas
pub mod SettleLemmas
pub mod HeirLemmas
pub mod CounterLemmas
pub mod LeftLemmas
pub mod StepRows
pub mod BearLemmas
pub mod HeirBirths
pub mod HeirTurns
pub mod UnrunUntaken
pub mod AnswerLemmas
pub mod RoomLemmas
pub mod SpentLemmas
pub mod CreditLemmas
pub mod PayingLemmas
pub mod CountLemmas
