use Rattle.std.proofs.Common.{◌≡◌, ◌-◌, length}
use Rattle.ppm_pieces.specs.Pieces.{split}
use Rattle.ppm_explain.specs.Places.{line_behind}
use Rattle.ppm_explain.proofs.place.line_bytes.Given as goal

-- the lines that are left have it
abbrev pub invariant-lines : goal.invariant-lines
invariant-lines l = line_behind l.ahead (split 10 l.left) ≡ line_behind (l.fn.line - 1) (split 10 l.fn.text)

abbrev pub decreases-lines : goal.decreases-lines
decreases-lines l = length l.left
