use Rattle.std.proofs.Common.{◌≡◌, length}
use Rattle.ppm_pieces.specs.Pieces.{split}
use Rattle.ppm_explain.specs.Places.{last_of}
use Rattle.ppm_explain.proofs.place.last_line.Given as goal

-- what is left has the last line
abbrev pub invariant-lines : goal.invariant-lines
invariant-lines l = last_of (split 10 l.left) ≡ last_of (split 10 l.fn.bytes)

abbrev pub decreases-lines : goal.decreases-lines
decreases-lines l = length l.left
