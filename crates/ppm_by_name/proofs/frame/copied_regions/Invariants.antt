use Rattle.std.proofs.Common.{◌≡◌, ◌++◌, length}
use Rattle.ppm_by_name.proofs.frame.copied_regions.Given as goal

-- those so far, and those that are left
abbrev pub invariant-loop-left : goal.invariant-loop-left
invariant-loop-left l = l.all.items ++ l.left ≡ l.regions

abbrev pub decreases-loop-left : goal.decreases-loop-left
decreases-loop-left l = length l.left
