use Rattle.std.proofs.Common.{◌≡◌, ◌++◌, length}
use Rattle.ppm_explain.specs.Spread.{spread}
use Rattle.ppm_explain.proofs.fault.push_spread.Given as goal

-- what is written, and what is left
abbrev pub invariant-tokens : goal.invariant-tokens
invariant-tokens l = l.text.items ++ spread l.left ≡ l.fn.text.items ++ spread l.fn.tokens

abbrev pub decreases-tokens : goal.decreases-tokens
decreases-tokens l = length l.left
