use Rattle.std.proofs.Common.{◌≡◌, ◌+◌, ◌≤◌, ◌^◌, length}
use Rattle.ppm_plan.specs.Refusals.{first_at}
use Rattle.ppm_plan.proofs.judging.first_outside.Given as goal

-- the answer is that for those that are left, counted on
abbrev pub invariant-loop-left : goal.invariant-loop-left
invariant-loop-left g l =
    (first_at (g.T.Item.form.is_outside l.processors) l.number l.left ≡ first_at (g.T.Item.form.is_outside l.processors) 1 l.items)
    × (l.number + length l.left ≤ 2 ^ 63)

abbrev pub decreases-loop-left : goal.decreases-loop-left
decreases-loop-left g l = length l.left
