use Rattle.std.proofs.Common.{◌≡◌, ◌++◌, length}
use Rattle.ppm_notes.specs.Operands.{sorted}
use Rattle.ppm_notes.proofs.operands.push_sorted.Given as goal

-- what is kept, and what is left
abbrev pub invariant-sorts : goal.invariant-sorts
invariant-sorts l = l.wanted.items ++ sorted l.left ≡ l.fn.wanted.items ++ sorted l.fn.sorts

abbrev pub decreases-sorts : goal.decreases-sorts
decreases-sorts l = length l.left
