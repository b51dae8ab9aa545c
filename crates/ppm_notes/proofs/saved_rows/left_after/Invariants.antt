use Rattle.std.proofs.Common.{◌≡◌, length}
use Rattle.ppm_pieces.specs.Pieces.{split}
use Rattle.ppm_notes.specs.Rows.{left_by}
use Rattle.ppm_notes.specs.SavedRows.{times_in}
use Rattle.ppm_notes.proofs.saved_rows.left_after.Given as goal

-- what those that are left leave is what all leave
abbrev pub invariant-lines : goal.invariant-lines
invariant-lines l = left_by times_in l.words l.ahead (split 10 l.left) ≡ left_by times_in l.fn.count l.fn.lines (split 10 l.fn.text)

abbrev pub decreases-lines : goal.decreases-lines
decreases-lines l = length l.left
