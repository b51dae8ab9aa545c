use Rattle.std.proofs.Common.{◌≡◌, ◌++◌, length}
use Rattle.std.specs.List.{flat_map}
use Rattle.ppm_printer.specs.Canonical.{input_tokens}
use Rattle.ppm_printer.specs.Spelled.{text_of}
use Rattle.ppm_printer.proofs.program.push_inputs.Given as goal

-- what is written, and what is left
abbrev pub invariant-loop-left : goal.invariant-loop-left
invariant-loop-left l = l.text.items ++ text_of (flat_map input_tokens l.left) ≡ l.fn.text.items ++ text_of (flat_map input_tokens l.inputs)

abbrev pub decreases-loop-left : goal.decreases-loop-left
decreases-loop-left l = length l.left
