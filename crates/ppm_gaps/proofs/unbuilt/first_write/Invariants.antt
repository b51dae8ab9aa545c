use Rattle.std.proofs.Common.{length, ◌-◌, ◌<◌, ℕ}
use Rattle.ppm_gaps.specs.Unbuilt.{HasUnbuilt}
use Rattle.ppm_gaps.proofs.unbuilt.first_write.Given as goal

-- no store so far
abbrev pub invariant-loop-write : goal.invariant-loop-write
invariant-loop-write l = (k : ℕ) → k < l.write → HasUnbuilt l.instrs k → ⊥

abbrev pub decreases-loop-write : goal.decreases-loop-write
decreases-loop-write l = length l.instrs - l.write
