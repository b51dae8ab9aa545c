-- How the interpreter is shown. The machine's small functions have the clause `Does result self.new
-- (spec self.old)`, with the spec a plain function on models, so the simulation is lemmas over spec
-- functions.
-- `Shifts c A B` (one way to go on is another after c turns, both ways) gives `NotWithin` and the
-- end alike, and needs neither uniqueness nor progress of the meaning.
-- A slot for each name of a procedure makes it exact for every program, admitted or not.
-- A value that may trap is had without its trap first, as an `Option<i64>` that fits into
-- registers; `WorthLemmas.worth_is` joins that to the function whose `Result` names the trap.

pub mod ToComeLemmas
pub mod SlotLemmas
pub mod TreeLemmas
pub mod SimulationLemmas
pub mod StepLemmas
pub mod NameLemmas
pub mod RunningLemmas
pub mod WeightLemmas
pub mod KeepLemmas
pub mod LayLemmas
pub mod ProgramLemmas
pub mod EntryLemmas
pub mod PlaceLemmas
pub mod ArmLemmas
pub mod WorthLemmas
