use Rattle.std.proofs.Common.{◌≡◌, length}
use Rattle.ppm_explain.specs.Spread.{numbered}
use Rattle.ppm_explain.proofs.fault.numbered.Given as goal

-- what is left decides
abbrev pub invariant-tokens : goal.invariant-tokens
invariant-tokens l = numbered l.ahead l.left ≡ numbered l.fn.number l.fn.tokens

abbrev pub decreases-tokens : goal.decreases-tokens
decreases-tokens l = length l.left
