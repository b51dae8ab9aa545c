use Rattle.std.proofs.Common.{length}
use Rattle.ppm_case.proofs.LoopLemmas.{SoFar}
use Rattle.ppm_case.proofs.arrays.read_arrays.Given as goal

-- arrays were read up to a line
abbrev pub invariant-loop-alloc : goal.invariant-loop-alloc
invariant-loop-alloc l = SoFar l.text l.arrays.items l.words l.lines l.left

abbrev pub decreases-loop-alloc : goal.decreases-loop-alloc
decreases-loop-alloc l = length l.left
