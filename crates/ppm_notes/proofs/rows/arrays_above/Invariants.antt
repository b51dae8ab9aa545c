use Rattle.std.proofs.Common.{◌≡◌, ◌+◌, length}
use Rattle.ppm_pieces.specs.Pieces.{split}
use Rattle.ppm_notes.specs.Rows.{arrays_in}
use Rattle.ppm_notes.proofs.rows.arrays_above.Given as goal

-- what is counted, and what is left
abbrev pub invariant-lines : goal.invariant-lines
invariant-lines l = l.count + arrays_in (split 10 l.left) ≡ arrays_in (split 10 l.fn.text)

abbrev pub decreases-lines : goal.decreases-lines
decreases-lines l = length l.left
