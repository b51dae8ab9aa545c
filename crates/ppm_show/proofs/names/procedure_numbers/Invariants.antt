use Rattle.std.proofs.Common.{◌≡◌, map}
use Rattle.std.specs.List.{range_with_len}
use Rattle.ppm_naming.specs.declared.names.ProcedureName.TheVariants.{Numbered}
use Rattle.ppm_show.proofs.names.procedure_numbers.Given as goal

-- the numbers so far
abbrev pub invariant-loop-number : goal.invariant-loop-number
invariant-loop-number l = l.names.items ≡ map Numbered (range_with_len 0 l.number)
