use Rattle.std.proofs.Common.{◌≡◌, ◌++◌, length}
use Rattle.ppm_tree.specs.Tree.{expression_of}
use Rattle.ppm_printer.specs.Canonical.{more_tokens, expression_tokens}
use Rattle.ppm_printer.specs.Spelled.{text_of}
use Rattle.ppm_printer.proofs.expression.push_more_arguments.Given as goal

-- what is written, and what is left
abbrev pub invariant-loop-left : goal.invariant-loop-left
invariant-loop-left l =
    l.text.items ++ text_of (more_tokens (λ a. expression_tokens (expression_of a.value)) l.left)
    ≡ l.fn.text.items ++ text_of (more_tokens (λ a. expression_tokens (expression_of a.value)) l.arguments)

abbrev pub decreases-loop-left : goal.decreases-loop-left
decreases-loop-left l = length l.left
