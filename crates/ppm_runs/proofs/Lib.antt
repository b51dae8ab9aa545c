-- How the laws are shown. Which rows fork, begin a branch and change block words is one walk over all
-- loads (`TameLemmas`); what a processor does at its place is what the frames see there
-- (`ShownLemmas`); then what turns owe (`OrderlyLemmas`). Who takes a branch has it at its home
-- (`TakerLemmas`), so a turn leads on (`GoingLemmas`, `BearingLemmas`, `BrokenLemmas`); a run's
-- beginning (`OpenLemmas`) and its end (`OutcomeLemmas`). What a row makes of the tree and of homes, kind by
-- kind, is `AgreeLemmas`; that both halves join again is `JoinLemmas`, and whole runs are `WholeLemmas`; each of their moments is
-- `MomentLemmas`, a pool that was found full `SpentLemmas`, what is given out of pools `PoolLemmas`, and words that
-- come back `BackLemmas`. Runs in legs are `LegLemmas`; their work is `BoundLemmas`, turn by turn, and `LegWork`, leg
-- by leg.
-- That nothing breaks has two halves. Of deques, places and processors: each load of a row
-- (`SoundRows`, and of an heir `CheckRows`), each write (`SoundLemmas`), each act (`SoundTurns`, `SoundJoin`). Of frames: headers
-- are numbers of capsules and what is over has an outcome (`WellWords`, with places left out `WellLeft`), so rows and
-- capsules of strands meet no broken words (`WellRows`, `ArrayLemmas`, `WellRuns`, `WellStands`), and that stays
-- (`WellCapsules`, `WellTurns`, `HeirWell`). Half of the work turns at most raise a tag (`RaisedLemmas`), and
-- `UnbrokenLemmas` has all of it in whole runs. Who holds a place changes by bids alone (`BidLemmas`), so tags
-- of holders stay low over legs (`TagLemmas`), and what is sound is so again after each (`LegSound`).
-- Each run is one of orderly turns (`EveryRunLemmas`; over legs too, `LegTickets`), the words show a tree (`LeftLemmas`) that is ahead of the
-- root (`TreeLemmas`), who runs a right branch was counted (`RunnerLemmas`), and who seeks work has no strand
-- (`SeekLemmas`).

pub mod TameLemmas
pub mod StandLemmas
pub mod ShownLemmas
pub mod LeftLemmas
pub mod OrderlyLemmas
pub mod TakerLemmas
pub mod CameLemmas
pub mod GoingLemmas
pub mod BearingLemmas
pub mod OpenLemmas
pub mod BrokenLemmas
pub mod OutcomeLemmas
pub mod AgreeLemmas
pub mod OpenedLemmas
pub mod JoinLemmas
pub mod WholeLemmas
pub mod MomentLemmas
pub mod SpentLemmas
pub mod PoolLemmas
pub mod BackLemmas
pub mod LegLemmas
pub mod SumLemmas
pub mod BegunLemmas
pub mod WorkLemmas
pub mod AgainLemmas
pub mod BoundLemmas
pub mod FollowLemmas
pub mod HalvesLemmas
pub mod HeirJoinLemmas
pub mod HeiredLemmas
pub mod LongLemmas
pub mod CountedLemmas
pub mod ForkLemmas
pub mod LegForks
pub mod EveryRunLemmas
pub mod LegTickets
pub mod TreeLemmas
pub mod RunnerLemmas
pub mod SeekLemmas
pub mod SoundRows
pub mod CheckRows
pub mod BidLemmas
pub mod HolderLemmas
pub mod SoundLemmas
pub mod SoundTurns
pub mod WellWords
pub mod WellLeft
pub mod SoundJoin
pub mod ArrayLemmas
pub mod WellRows
pub mod WellRuns
pub mod WellStands
pub mod WellCapsules
pub mod WellTurns
pub mod HeirWell
pub mod RaisedLemmas
pub mod UnbrokenLemmas
pub mod TagLemmas
pub mod LegWork
pub mod HeirWork
pub mod LegSound
