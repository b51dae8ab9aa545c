use Rattle.std.proofs.Common.{◌≡◌, length}
use Rattle.std.specs.List.{list_any}
use Rattle.ppm_plan.specs.Faults.{is_at}
use Rattle.ppm_outcomes.proofs.counting.is_any_at.Given as goal

-- the answer is that for those that are left
abbrev pub invariant-loop-left : goal.invariant-loop-left
invariant-loop-left l = list_any (is_at l.processor l.turn) l.left ≡ list_any (is_at l.processor l.turn) l.items

abbrev pub decreases-loop-left : goal.decreases-loop-left
decreases-loop-left l = length l.left
