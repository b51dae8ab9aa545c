use Rattle.std.proofs.Common.{◌≡◌, ℕ, ◌-◌, ◌<◌, ◌≤◌, true}
use Rattle.ppm_plan.specs.Refusals.{is_killed}
use Rattle.ppm_plan.proofs.judging.least_spared.Given as goal

-- all below are killed
abbrev pub invariant-loop-processor : goal.invariant-loop-processor
invariant-loop-processor g l = ((c : ℕ) → c < l.processor → is_killed g.T.Item.form c l.items ≡ true) × (l.processor ≤ l.processors)

abbrev pub decreases-loop-processor : goal.decreases-loop-processor
decreases-loop-processor g l = l.processors - l.processor
