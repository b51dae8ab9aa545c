-- How the run is shown. One stack of blocks in the machine's own layout; the tree of strands holds
-- functions, and the stack agrees with them on a frame's slots alone (`Holds`), so no frame is
-- copied and no tree compared.
-- Read in this order: `specs/Store`, `Whole` (one capsule), `Stack` (which tree the stack shows),
-- `Moves`, `Turns`. Each turn is a chain in turn (`ppm_strands`), of whole capsules alone
-- (`specs/Order`).

pub mod ActLemmas
pub mod AdvanceLemmas
pub mod BlockLemmas
pub mod EndLemmas
pub mod FollowLemmas
pub mod GoingLemmas
pub mod LoopLemmas
pub mod OrderLemmas
pub mod RestLemmas
pub mod ResumeLemmas
pub mod StackLemmas
pub mod ThereLemmas
pub mod TurnLemmas
pub mod WholeLemmas
