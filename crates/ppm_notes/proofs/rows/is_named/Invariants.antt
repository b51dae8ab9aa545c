use Rattle.std.proofs.Common.{◌≡◌, length}
use Rattle.ppm_pieces.specs.Pieces.{split}
use Rattle.ppm_notes.specs.Rows.{is_named_in}
use Rattle.ppm_notes.proofs.rows.is_named.Given as goal

-- those that are left have the name where all have it
abbrev pub invariant-lines : goal.invariant-lines
invariant-lines l = is_named_in l.ahead (split 10 l.left) l.name ≡ is_named_in l.fn.lines (split 10 l.fn.text) l.fn.name

abbrev pub decreases-lines : goal.decreases-lines
decreases-lines l = length l.left
