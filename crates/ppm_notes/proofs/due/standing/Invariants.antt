use Rattle.std.proofs.Common.{◌≡◌, ◌+◌, length}
use Rattle.ppm_pieces.specs.Pieces.{split}
use Rattle.ppm_notes.specs.Dues.{standing}
use Rattle.ppm_notes.proofs.due.standing.Given as goal

-- what is counted, and what is left
abbrev pub invariant-words : goal.invariant-words
invariant-words l =
    (l.count + standing l.ahead (split 32 l.left) ≡ standing l.fn.dues (split 32 l.fn.line)) × (l.count + length l.ahead ≡ length l.fn.dues)

abbrev pub decreases-words : goal.decreases-words
decreases-words l = length l.ahead
