use Rattle.std.proofs.Common.{◌≡◌, ◌+◌, length}
use Rattle.std.specs.List.{prefix_len}
use Rattle.ppm_case.specs.Text.{same_value}
use Rattle.ppm_case.proofs.row.front_len.Given as goal

-- those so far, and those that are left
abbrev pub invariant-loop-left : goal.invariant-loop-left
invariant-loop-left l =
    (l.count + prefix_len (λ v. same_value v l.value) l.left ≡ prefix_len (λ v. same_value v l.value) l.values)
    × (l.count + length l.left ≡ length l.values)

abbrev pub decreases-loop-left : goal.decreases-loop-left
decreases-loop-left l = length l.left
