use Rattle.std.proofs.Common.{◌≡◌, ◌++◌, length}
use Rattle.ppm_printer.specs.Canonical.{more_tokens, parameter_tokens}
use Rattle.ppm_printer.specs.Spelled.{text_of}
use Rattle.ppm_printer.proofs.program.push_more_parameters.Given as goal

-- what is written, and what is left
abbrev pub invariant-loop-left : goal.invariant-loop-left
invariant-loop-left l = l.text.items ++ text_of (more_tokens parameter_tokens l.left) ≡ l.fn.text.items ++ text_of (more_tokens parameter_tokens l.parameters)

abbrev pub decreases-loop-left : goal.decreases-loop-left
decreases-loop-left l = length l.left
