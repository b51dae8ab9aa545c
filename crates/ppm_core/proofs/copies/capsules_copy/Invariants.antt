use Rattle.std.proofs.Common.{◌≡◌, ◌++◌, length}
use Rattle.ppm_core.proofs.copies.capsules_copy.Given as goal

-- those that are copied, and those that are left
abbrev pub invariant-loop-left : goal.invariant-loop-left
invariant-loop-left l = l.copy.items ++ l.left ≡ l.capsules

abbrev pub decreases-loop-left : goal.decreases-loop-left
decreases-loop-left l = length l.left
