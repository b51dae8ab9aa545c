use Rattle.std.proofs.Common.{length, ◌-◌, ◌<◌, ℕ}
use Rattle.ppm_racy_gaps.specs.Repeats.{IsRepeat}
use Rattle.ppm_racy_gaps.proofs.repeats.repeat_in.Given as goal

-- no exchange so far
abbrev pub invariant-loop-at : goal.invariant-loop-at
invariant-loop-at l = (k : ℕ) → k < l.at → (write : ℕ) → IsRepeat l.instrs k write → ⊥

abbrev pub decreases-loop-at : goal.decreases-loop-at
decreases-loop-at l = length l.instrs - l.at
