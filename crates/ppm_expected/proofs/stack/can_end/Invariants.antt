use Rattle.std.proofs.Common.{◌≡◌, length}
use Rattle.ppm_rows.specs.Language.{language}
use Rattle.ppm_expected.specs.Machine.{may_end}
use Rattle.ppm_expected.specs.Language.{to_come}
use Rattle.ppm_expected.proofs.stack.can_end.Given as goal

-- what is left decides
abbrev pub invariant-items : goal.invariant-items
invariant-items l = may_end language (to_come l.left) ≡ may_end language (to_come l.initial.left)

abbrev pub decreases-items : goal.decreases-items
decreases-items l = length l.left
