use Rattle.std.proofs.Common.{◌≡◌, length}
use Rattle.ppm_picture.specs.Markup.{appended}
use Rattle.ppm_picture.proofs.markup.push_markup.Given as goal

-- what is left comes after what is written
abbrev pub invariant-loop-left : goal.invariant-loop-left
invariant-loop-left l = appended l.fn.text.items l.parts ≡ appended l.text.items l.left

abbrev pub decreases-loop-left : goal.decreases-loop-left
decreases-loop-left l = length l.left
