-- How correctness is shown, in the order to read. `Holding`: how a frame of the code holds one of
-- the meaning, and the words the arrays. `ChainLemmas`: chains in turn with their cost. `Doing`:
-- one statement a construct, with no premise that its capsules do not use.
-- Files that show these, each for itself: `ExprLemmas`, `StatementLemmas`, `PutLemmas`,
-- `SplitLemmas`, `ArgumentLemmas` for `CallLemmas` and `ForkLemmas`, `SlotLemmas` for `EntryLemmas`
-- and `HalvingLemmas`.
-- `Given` gathers them with what is known of the program, so nothing above it sees an instruction:
-- `Places` (where a block may stand), `ReachLemmas` (stretches one after the other), `SweepLemmas`
-- (the halves of an `each`: the 8 turns of each block pay for them), `Constructs` (what each
-- statement does, given what its parts do).
-- Two directions stand on it: `Forward`, by recursion on a run of the meaning, and `Progress`, by
-- recursion on n: a block has an end, or its code makes n capsules in turn.
-- `Theorem` has from `Progress` both that the code ends only where the meaning does and that else
-- it goes on for ever; that the ends are one is a law of `ppm_strands`. `SerialLemmas` goes on from
-- there to the serial outcome.

pub mod ChainLemmas
pub mod Holding
pub mod Doing
pub mod StepLemmas
pub mod SlotLemmas
pub mod ExprLemmas
pub mod Places
pub mod HoldLemmas
pub mod StoreLemmas
pub mod StatementLemmas
pub mod PutLemmas
pub mod SplitLemmas
pub mod Given
pub mod SweepLemmas
pub mod BlockLemmas
pub mod EntryLemmas
pub mod HalvingLemmas
pub mod LimitLemmas
pub mod CountLemmas
pub mod RootLemmas
pub mod InputLemmas
pub mod GivenLemmas
pub mod SmallLemmas
pub mod ReachLemmas
pub mod Constructs
pub mod ArgumentLemmas
pub mod CallLemmas
pub mod ForkLemmas
pub mod Forward
pub mod Progress
pub mod Theorem
pub mod SerialLemmas
