-- How the machine is shown: what a turn of a strand comes to is said of any run that it may be in
-- (`specs/Steps`, by `ReachLemmas`, `TurnLemmas`, `OpenLemmas` and `EndLemmas`), so what a step comes
-- to beside the others is too (`specs/Stepping`, by `RunLemmas` and `WaitLemmas`). Put back, it makes
-- a machine that shows each strand of the run with this turn (`specs/Shows`, by `ShowLemmas`,
-- `ForkLemmas`, `MachineLemmas` and `PutLemmas`). A strand comes along moments in one way
-- (`OnceLemmas`), so what the machine has settled of it is what it has settled (`FallenLemmas`), and a
-- schedule has one run (`OneRunLemmas`).

mod AlongLemmas
mod EndLemmas
pub mod FallenLemmas
mod ForkLemmas
mod MachineLemmas
pub mod OnceLemmas
mod OneRunLemmas
mod OpenLemmas
mod OwnLemmas
mod PutLemmas
mod ReachLemmas
mod RunLemmas
mod ShowLemmas
mod StartLemmas
mod StepLemmas
mod TurnLemmas
mod WaitLemmas
