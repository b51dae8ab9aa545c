use Rattle.std.proofs.Common.{◌≡◌, length}
use Rattle.ppm_plan.specs.Refusals.{is_killed}
use Rattle.ppm_plan.proofs.judging.is_killed.Given as goal

-- the answer is that for those that are left
abbrev pub invariant-loop-left : goal.invariant-loop-left
invariant-loop-left g l = is_killed g.T.Item.form l.processor l.left ≡ is_killed g.T.Item.form l.processor l.items

abbrev pub decreases-loop-left : goal.decreases-loop-left
decreases-loop-left g l = length l.left
