use Rattle.std.proofs.Common.{◌≡◌, ◌≤◌, min, length}
use Rattle.ppm_pieces.specs.Numbers.{value_from, value, value_limit}
use Rattle.ppm_pieces.proofs.decimal.value.Given as goal

-- the number so far, and the digits that are left
abbrev pub invariant-loop-left : goal.invariant-loop-left
invariant-loop-left l = (min (value_from l.number l.left) value_limit ≡ value l.digits) × (l.number ≤ value_limit)

abbrev pub decreases-loop-left : goal.decreases-loop-left
decreases-loop-left l = length l.left
