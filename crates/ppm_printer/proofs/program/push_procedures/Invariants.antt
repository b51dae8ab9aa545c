use Rattle.std.proofs.Common.{◌≡◌, ◌++◌, length}
use Rattle.std.specs.List.{flat_map}
use Rattle.ppm_tree.specs.Tree.{procedure_of}
use Rattle.ppm_printer.specs.Canonical.{procedure_tokens}
use Rattle.ppm_printer.specs.Spelled.{text_of}
use Rattle.ppm_printer.proofs.program.push_procedures.Given as goal

-- what is written, and what is left
abbrev pub invariant-loop-left : goal.invariant-loop-left
invariant-loop-left l =
    l.text.items ++ text_of (flat_map (λ p. procedure_tokens (procedure_of p)) l.left)
    ≡ l.fn.text.items ++ text_of (flat_map (λ p. procedure_tokens (procedure_of p)) l.procedures)

abbrev pub decreases-loop-left : goal.decreases-loop-left
decreases-loop-left l = length l.left
