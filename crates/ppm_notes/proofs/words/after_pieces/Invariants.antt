use Rattle.std.proofs.Common.{◌≡◌, length}
use Rattle.ppm_notes.specs.Words.{after_pieces}
use Rattle.ppm_notes.proofs.words.after_pieces.Given as goal

-- what is left has what is sought
abbrev pub invariant-pieces : goal.invariant-pieces
invariant-pieces l = after_pieces l.separator l.ahead l.left ≡ after_pieces l.fn.separator l.fn.count l.fn.bytes

abbrev pub decreases-pieces : goal.decreases-pieces
decreases-pieces l = length l.left
