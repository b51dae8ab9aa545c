-- How the laws are shown. What a row of Take or Take2 has come to is `BidRows`; rows that look are short (`LookRows`), and processors move after a bid
-- alone (`MoveRows`). A processor whose bid stands is never about to give it up (`StandRows`). So each turn leaves places carried by their holders
-- (`CarriedTurns`), and who is done is dead or the run is over (`DoneLemmas`); runs and legs do so too, and nothing is lost in them (`CarriedRuns`).
-- Who works makes a work turn soon (`SoonRuns`). Who looks at a place that a dead processor has left bids for it in six steps (`BidSteps`), and who has
-- taken a place over is there in ten (`ComeSteps`). So each lap has a work turn or a new holder, and both are bounded (`LapRuns`).
-- Of seventeen steps one is a look, a work turn or a move (`LookSteps`).
--
-- Rounds of a replay are laps. A row that seeks work bids for no place that its processor holds, and what rows have seen of bids is `AimRows`. So a
-- processor to which no place that it took over is left has none until it bids anew, and none where it has just moved (`AimTurns`). Words that come back
-- keep messages, but none of them may stand (`ApartRuns`); so these laws hold over legs too, and those of runs from an image are those without legs. Thus
-- in turns in which nobody works and no place has a new holder it looks within 17 of its steps, again and again (`SettleRuns`). Its looks are counted, and each names the
-- place after the one before (`LoadCounts`). In n rounds each processor that isn't done has n turns; so in 17 (P + 2) rounds one that is spared looks at
-- each place and bids for those that were left, or somebody gained (`RoundLaps`). Both gains are bounded (`PlacesReplays`).

pub mod BidRows
pub mod LookRows
pub mod MoveRows
pub mod StandRows
pub mod DoneLemmas
pub mod CarriedTurns
pub mod CarriedRuns
pub mod BidSteps
pub mod ComeSteps
pub mod SoonRuns
pub mod LapRuns
pub mod LookSteps
pub mod AimRows
pub mod AimTurns
pub mod ApartRuns
pub mod SettleRuns
pub mod LoadCounts
pub mod RoundLaps
pub mod PlacesReplays
