use Rattle.std.proofs.Common.{◌≡◌, ◌++◌, length}
use Rattle.ppm_notes.specs.Operands.{numbers}
use Rattle.ppm_notes.proofs.operands.numbers.Given as goal

-- what is kept, and what is left
abbrev pub invariant-tokens : goal.invariant-tokens
invariant-tokens l = l.wanted.items ++ numbers l.left ≡ numbers l.fn.tokens

abbrev pub decreases-tokens : goal.decreases-tokens
decreases-tokens l = length l.left
