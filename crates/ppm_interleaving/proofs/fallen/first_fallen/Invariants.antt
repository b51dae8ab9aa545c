use Rattle.std.proofs.Common.{length}
use Rattle.ppm_interleaving.proofs.FallenLemmas.{SoFar}
use Rattle.ppm_interleaving.proofs.fallen.first_fallen.Given as goal

-- those so far stand
abbrev pub invariant-loop-change : goal.invariant-loop-change
invariant-loop-change l = SoFar l.words l.changes l.left l.number

abbrev pub decreases-loop-change : goal.decreases-loop-change
decreases-loop-change l = length l.left
