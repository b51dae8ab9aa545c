-- How the commands that drive threads by a plan are shown. `run` rests on `drive` of `ppm_threads`; what that says of a table is turned into what a
-- program has by the lemmas of `ppm_outcomes`. That a run with turns and room enough ends is what each other answer would say (`CompleteLemmas`,
-- `CompleteOfCode`). An answer of a run of a sound code says that it is as its code (`CodeRows`); the rows follow (`HeadlineLemmas`, `OfRun`). What
-- watchers were told with an answer: `MadeLemmas`. With one processor a text has one answer (`AllLemmas`, `OneRun`).
-- Where its counts are told, a run is one without them (`OneCountedRun`, `OfCountedRun`, `OfCountedRunCase`).
-- `run` of a case is shown as `run` of a program, with the code and the input of the case in their place (`RunCaseLemmas`, `OneCase`,
-- `CaseHeadlineLemmas`, `OfRunCase`).
-- What a RAM's code comes to is what the RAM does (`AsRamLemmas`); so the rows of `ram` are shown as those of a case (`RamLemmas`, `OneRam`,
-- `RamHeadlineLemmas`, `OfRam`), and those of `self` as those of `run` (`ExampleLemmas`, `ExampleSums`, `OfExample`).

pub mod AllLemmas
pub mod CodeRows
pub mod OneRun
pub mod CompleteLemmas
pub mod CompleteOfCode
pub mod MadeLemmas
pub mod HeadlineLemmas
pub mod OfRun
pub mod OneCountedRun
pub mod OfCountedRun
pub mod RunCaseLemmas
pub mod OneCase
pub mod CaseHeadlineLemmas
pub mod OfRunCase
pub mod OfCountedRunCase
pub mod AsRamLemmas
pub mod RamLemmas
pub mod OneRam
pub mod RamHeadlineLemmas
pub mod OfRam
pub mod ExampleLemmas
pub mod ExampleSums
pub mod OfExample
