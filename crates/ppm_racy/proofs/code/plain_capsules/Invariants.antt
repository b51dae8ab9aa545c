use Rattle.std.proofs.Common.{◌≡◌, ◌++◌, map, length}
use Rattle.ppm_racy.specs.Code.{plain_capsule}
use Rattle.ppm_racy.proofs.code.plain_capsules.Given as goal

-- those so far, and those that are left
abbrev pub invariant-loop-left : goal.invariant-loop-left
invariant-loop-left l = l.plain.items ++ map plain_capsule l.left ≡ map plain_capsule l.capsules

abbrev pub decreases-loop-left : goal.decreases-loop-left
decreases-loop-left l = length l.left
