use Rattle.std.proofs.Common.{◌-◌, ◌<◌, ℕ}
use Rattle.ppm_gaps.specs.Finds.{IsStoredAt}
use Rattle.ppm_gaps.proofs.finds.is_stored_before.Given as goal

-- no store so far
abbrev pub invariant-loop-store : goal.invariant-loop-store
invariant-loop-store l = (k : ℕ) → k < l.store → IsStoredAt l.instrs l.slot l.at k → ⊥

abbrev pub decreases-loop-store : goal.decreases-loop-store
decreases-loop-store l = l.at - l.store
