-- How the laws are shown. What a turn writes is one list of cases (`WriteLemmas`); so a place's restart changes by its own processor alone
-- (`RestartLemmas`). A right branch that isn't pushed is beside the place that is to push it (`FreshLemmas`, `FreshTurns`), so each turn leaves a
-- tree that advances (`AdvanceRuns`), and each moment of a run by places has something to do (`ReadyLemmas`).
-- A place begins to look for work where its row has found no job (`PopRows`), so it has none (`IdleLemmas`, `IdleTurns`, `IdleRuns`). Without
-- hard faults nobody dies, and places stay home (`AliveLemmas`). So what is ready is at a place that works (`WorkLemmas`; turn by turn
-- `UnhurtRuns`, `WorkRuns`; over legs `LegRuns`). What a turn makes of holders, carry words, bids and dead words is `SpotLemmas`; so who carries a
-- place carries it after a turn (`MomentLemmas`), and who carries one at work makes a work turn soon (`SoonLemmas`). A place that has won a job goes by
-- rows that find it taken in its name (`ThiefRows`); each step lessens how many come before the work turn (`HeightLemmas`, `ThiefLemmas`). That the
-- other facts of a state are not enough is `StuckLemmas`.
-- Who works takes part in the next lap, at its own place; so each lap has a work turn, and work turns are bounded (`LapLemmas`). In a round of a replay
-- each processor makes a step, as long as the finish word is 0 and acts are left (`RoundLemmas`); so thirteen rounds are a lap. Rounds undo nothing, so
-- what is undone is by faults of the list (`ReplayLemmas`).

pub mod NoteLemmas
pub mod WriteLemmas
pub mod RestartLemmas
pub mod SpotLemmas
pub mod FreshLemmas
pub mod FreshTurns
pub mod AdvanceRuns
pub mod ReadyLemmas
pub mod PopRows
pub mod IdleLemmas
pub mod IdleTurns
pub mod IdleRuns
pub mod AliveLemmas
pub mod WorkLemmas
pub mod UnhurtRuns
pub mod WorkRuns
pub mod LegRuns
pub mod MomentLemmas
pub mod SoonLemmas
pub mod ThiefRows
pub mod HeightLemmas
pub mod ThiefLemmas
pub mod StuckLemmas
pub mod ListLemmas
pub mod LapLemmas
pub mod RoundLemmas
pub mod ReplayLemmas
