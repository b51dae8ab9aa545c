use Rattle.std.proofs.Common.{◌≡◌, ◌+◌, ◌≤◌, ◌++◌, length}
use Rattle.ppm_picture.specs.Legend.{labels_from}
use Rattle.ppm_picture.proofs.legend.push_labels.Given as goal

-- the procedures that are left come after those that are written
abbrev pub invariant-loop-left : goal.invariant-loop-left
invariant-loop-left l = (l.fn.text.items ++ labels_from 0 l.names ≡ l.text.items ++ labels_from l.number l.left) × (l.number + length l.left ≤ 8)

abbrev pub decreases-loop-left : goal.decreases-loop-left
decreases-loop-left l = length l.left
