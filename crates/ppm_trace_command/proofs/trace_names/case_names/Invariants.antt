use Rattle.std.proofs.Common.{◌≡◌, map}
use Rattle.std.specs.List.{range_with_len}
use Rattle.ppm_naming.specs.declared.names.ProcedureName.TheVariants as name
use Rattle.ppm_trace_command.proofs.trace_names.case_names.Given as goal

-- the numbers so far
abbrev pub invariant-loop-number : goal.invariant-loop-number
invariant-loop-number l = l.names.items ≡ map (λ number. name.Numbered number) (range_with_len 0 l.number)
