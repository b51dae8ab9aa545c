use Rattle.std.proofs.Common.{◌≡◌, length}
use Rattle.ppm_rows.specs.Language.{language}
use Rattle.ppm_expected.specs.Machine.{comes_first}
use Rattle.ppm_expected.specs.Language.{terminal_of, to_come}
use Rattle.ppm_expected.proofs.stack.can_come.Given as goal

-- what is left decides
abbrev pub invariant-items : goal.invariant-items
invariant-items l = comes_first language (to_come l.left) (terminal_of l.kind) ≡ comes_first language (to_come l.initial.left) (terminal_of l.kind)

abbrev pub decreases-items : goal.decreases-items
decreases-items l = length l.left
