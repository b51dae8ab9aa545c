use Rattle.std.proofs.Common.{◌≡◌, ◌+◌, length}
use Rattle.ppm_pieces.specs.Pieces.{split}
use Rattle.ppm_notes.specs.Words.{capsules_in}
use Rattle.ppm_notes.proofs.words.capsules_above.Given as goal

-- what is counted, and what is left
abbrev pub invariant-lines : goal.invariant-lines
invariant-lines l = l.count + capsules_in l.ahead (split 10 l.left) ≡ capsules_in l.fn.lines (split 10 l.fn.text)

abbrev pub decreases-lines : goal.decreases-lines
decreases-lines l = length l.left
