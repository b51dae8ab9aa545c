use Rattle.std.proofs.Common.{◌≡◌, ◌++◌, length, map}
use Rattle.ppm_tree.specs.Tree.{procedure_of}
use Rattle.ppm_trace_command.specs.TraceNames.{text_names}
use Rattle.ppm_trace_command.proofs.trace_names.push_texts.Given as goal

-- the names so far, and those that are left
abbrev pub invariant-loop-left : goal.invariant-loop-left
invariant-loop-left l =
    l.names.items ++ text_names (map procedure_of l.left) ≡ l.initial.names.items ++ text_names (map procedure_of l.procedures)

abbrev pub decreases-loop-left : goal.decreases-loop-left
decreases-loop-left l = length l.left
