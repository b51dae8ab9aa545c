use Rattle.std.proofs.Common.{◌≡◌, length}
use Rattle.ppm_pieces.specs.Pieces.{split}
use Rattle.ppm_notes.specs.Operands.{below_all}
use Rattle.ppm_notes.proofs.above.below_lines.Given as goal

-- what those that are left say of what is known is what all say
abbrev pub invariant-lines : goal.invariant-lines
invariant-lines l = below_all l.known l.ahead (split 10 l.left) ≡ below_all l.fn.above l.fn.lines (split 10 l.fn.text)

abbrev pub decreases-lines : goal.decreases-lines
decreases-lines l = length l.left
