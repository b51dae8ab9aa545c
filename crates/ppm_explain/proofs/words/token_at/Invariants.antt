use Rattle.std.proofs.Common.{◌≡◌, length}
use Rattle.ppm_explain.specs.Words.{token_in}
use Rattle.ppm_explain.proofs.words.token_at.Given as goal

-- what is left decides
abbrev pub invariant-tokens : goal.invariant-tokens
invariant-tokens l = token_in l.fn.place l.left ≡ token_in l.fn.place l.fn.tokens

abbrev pub decreases-tokens : goal.decreases-tokens
decreases-tokens l = length l.left
