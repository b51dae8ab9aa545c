-- How runs, replays and legs are shown to end as their codes do. The answer of a run is what the finish word says (`EndLemmas`), and so is that of a
-- replay, exactly (`ExactLemmas`): what `ppm_threads` says of a table is turned into what a program has (`RunLemmas`), and of watchers into lists
-- (`WatchLemmas`), also where memory is wanting (`WantLemmas`); what `ppm_following` says of a machine likewise (`ReplayLemmas`), so a code has one
-- answer of a replay (`OneReplay`). No more faults strike than the plan has (`StrikeLemmas`, `FaultLemmas`).
-- That a run is as its code is, run depth first, is shown of each sound code on each input (`AsCodeLemmas`), and over legs (`LegsOfCode`); what the
-- program says more is added to it (`MeantLemmas`, `LegsMeant`). An answer of a replay says so (`CodeReplayRows`), and what it says of a program
-- comes from the law of runs (`MeantRows`). Its answer tells what it came to (`CameLemmas`). A law of a run reaches a command's rows as a field of what the program has (`ProgramHas`); an answer that
-- no run gives is left out of the kinds of answers, and all rows of the crates above close by their last case.
-- Where what is counted in a run is told, its answer is the one without counts, and they are those of its turns (`CountedLemmas`, `CountedResumeLemmas`), of its words
-- (`GivenLemmas` of `ppm_following`) and of its plan (`PlannedFaults`).
-- A resumed run (`ResumeLemmas`) is the latest leg of each run that left its state (`ResumedOfCode`), whose words come back (`LeftLemmas`); so it is
-- complete as a run is (`ResumeComplete`). That is shown of each sound code; of programs it is said by their codes.

pub mod EndLemmas
pub mod ExactLemmas
pub mod ReplayLemmas
pub mod OneReplay
pub mod WatchLemmas
pub mod WantLemmas
pub mod TakenLemmas
pub mod WorkLemmas
pub mod FaultLemmas
pub mod PlaceLemmas
pub mod LengthLemmas
pub mod AsCodeLemmas
pub mod MayRunLemmas
pub mod MeantLemmas
pub mod LegsOfCode
pub mod LegsMeant
pub mod MeantRows
pub mod RunLemmas
pub mod CountedLemmas
pub mod PlannedFaults
pub mod CameLemmas
pub mod CodeReplayRows
pub mod StrikeLemmas
pub mod ResumeLemmas
pub mod CountedResumeLemmas
pub mod TellLemmas
pub mod LeftLemmas
pub mod ResumedOfCode
pub mod ResumeComplete
