use Rattle.std.proofs.Common.{◌≡◌, length}
use Rattle.std.specs.List.{list_all}
use Rattle.ppm_pieces.specs.Numbers.{is_digit}
use Rattle.ppm_pieces.proofs.decimal.are_digits.Given as goal

-- the answer is that for those that are left
abbrev pub invariant-loop-left : goal.invariant-loop-left
invariant-loop-left l = list_all is_digit l.left ≡ list_all is_digit l.bytes

abbrev pub decreases-loop-left : goal.decreases-loop-left
decreases-loop-left l = length l.left
