use Rattle.std.proofs.Common.{◌≡◌, ◌++◌, length}
use Rattle.ppm_notes.specs.Operands.{leading, within}
use Rattle.ppm_notes.proofs.operands.leads_within.Given as goal

-- what is kept, and what is left
abbrev pub invariant-keywords : goal.invariant-keywords
invariant-keywords l = l.kept.items ++ leading l.above l.left ≡ leading l.fn.above within

abbrev pub decreases-keywords : goal.decreases-keywords
decreases-keywords l = length l.left
