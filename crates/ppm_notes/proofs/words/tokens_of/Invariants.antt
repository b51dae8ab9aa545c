use Rattle.std.proofs.Common.{◌≡◌, ◌++◌, length, map}
use Rattle.ppm_pieces.specs.Pieces.{split}
use Rattle.ppm_listing_reader.specs.Tokens.{token_of}
use Rattle.ppm_notes.proofs.words.tokens_of.Given as goal

-- what is kept, and what is left
abbrev pub invariant-words : goal.invariant-words
invariant-words l = l.tokens.items ++ map token_of (split 32 l.left) ≡ map token_of (split 32 l.fn.bytes)

abbrev pub decreases-words : goal.decreases-words
decreases-words l = length l.left
