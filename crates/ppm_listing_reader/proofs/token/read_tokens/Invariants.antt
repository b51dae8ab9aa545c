use Rattle.std.proofs.Common.{◌≡◌, ◌++◌, length}
use Rattle.ppm_listing_reader.specs.Tokens.{tokens_of}
use Rattle.ppm_listing_reader.proofs.token.read_tokens.Given as goal

-- the tokens so far, and those of what is left
abbrev pub invariant-loop-word : goal.invariant-loop-word
invariant-loop-word l = l.tokens.items ++ tokens_of l.left ≡ tokens_of l.line

abbrev pub decreases-loop-word : goal.decreases-loop-word
decreases-loop-word l = length l.left
