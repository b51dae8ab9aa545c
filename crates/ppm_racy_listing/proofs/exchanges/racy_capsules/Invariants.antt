use Rattle.std.proofs.Common.{◌≡◌, ◌≤◌, ◌<◌, ◌+◌, ◌*◌, ◌^◌, ◌++◌, length}
use Rattle.std.specs.List.{AllByRecursion}
use Rattle.ppm_code.specs.declared.code.Capsule.{Capsule}
use Rattle.ppm_racy_listing.specs.Exchanges.{exchanged_capsules}
use Rattle.ppm_racy_listing.proofs.exchanges.racy_capsules.Given as goal

-- those so far, and those that are left after them, of few lines
abbrev pub invariant-loop-left : goal.invariant-loop-left
invariant-loop-left l =
    (l.racy.items ++ exchanged_capsules l.olds l.line l.left ≡ exchanged_capsules l.olds l.line-2 l.capsules)
    × (l.line + 161 * length l.left < 2 ^ 32) × AllByRecursion (λ (c : Capsule). length c.instrs ≤ 160) l.left

abbrev pub decreases-loop-left : goal.decreases-loop-left
decreases-loop-left l = length l.left
