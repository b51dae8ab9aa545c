use Rattle.std.proofs.Common.{take}
use Rattle.ppm_regions.specs.Deciding.{IsIndex}
use Rattle.ppm_regions.proofs.procedures.Procedures.of.Given as goal

-- the first of each name among the procedures so far
abbrev pub invariant-loop-procedure : goal.invariant-loop-procedure
invariant-loop-procedure l = IsIndex l.by_name (take l.procedure-index l.procedure-items)
