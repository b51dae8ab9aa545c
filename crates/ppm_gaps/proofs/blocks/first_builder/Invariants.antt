use Rattle.std.proofs.Common.{length, ◌-◌, ◌<◌, ℕ}
use Rattle.ppm_gaps.specs.Blocks.{HasOther}
use Rattle.ppm_gaps.proofs.blocks.first_builder.Given as goal

-- no end so far
abbrev pub invariant-loop-other : goal.invariant-loop-other
invariant-loop-other l = (k : ℕ) → k < l.other → HasOther l.instrs k → ⊥

abbrev pub decreases-loop-other : goal.decreases-loop-other
decreases-loop-other l = length l.instrs - l.other
