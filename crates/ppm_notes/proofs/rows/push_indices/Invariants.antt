use Rattle.std.proofs.Common.{◌≡◌, ◌++◌, length}
use Rattle.ppm_pieces.specs.Pieces.{split}
use Rattle.ppm_notes.specs.Rows.{indices}
use Rattle.ppm_notes.proofs.rows.push_indices.Given as goal

-- what is kept, and what is left
abbrev pub invariant-words : goal.invariant-words
invariant-words l = l.dues.items ++ indices l.count (split 32 l.left) ≡ l.fn.dues.items ++ indices l.fn.count (split 32 l.fn.words)

abbrev pub decreases-words : goal.decreases-words
decreases-words l = length l.left
