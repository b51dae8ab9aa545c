use Rattle.std.proofs.Common.{length, ◌-◌, ◌<◌, ℕ}
use Rattle.ppm_gaps.specs.LeftOut.{HasLeftOutOf}
use Rattle.ppm_gaps.proofs.left_out.first_find.Given as goal

-- no find so far
abbrev pub invariant-loop-find : goal.invariant-loop-find
invariant-loop-find l = (k : ℕ) → k < l.find → HasLeftOutOf l.instrs k → ⊥

abbrev pub decreases-loop-find : goal.decreases-loop-find
decreases-loop-find l = length l.instrs - l.find
