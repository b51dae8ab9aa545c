use Rattle.std.proofs.Common.{◌≡◌, ◌++◌, length}
use Rattle.ppm_picture.specs.Markup.{in_threes}
use Rattle.ppm_picture.proofs.markup.push_digits.Given as goal

-- the digits that are left come after those that are written
abbrev pub invariant-loop-left : goal.invariant-loop-left
invariant-loop-left l = l.fn.text.items ++ in_threes l.digits ≡ l.text.items ++ in_threes l.left

abbrev pub decreases-loop-left : goal.decreases-loop-left
decreases-loop-left l = length l.left
