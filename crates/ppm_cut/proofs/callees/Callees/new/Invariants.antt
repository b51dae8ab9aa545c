use Rattle.std.proofs.Common.{◌≡◌, ◌++◌, drop, map}
use Rattle.std.specs.List.{AllByRecursion}
use Rattle.ppm_tree.specs.Tree.{procedure_of}
use Rattle.ppm_cut_code.specs.Slots.{procedure_slots}
use Rattle.ppm_cut.specs.Counts.{IsSmallProcedure}
use Rattle.ppm_cut.proofs.callees.Callees.new.Given as goal

-- the slots so far, and those of the procedures that follow, which are small
abbrev pub invariant-loop-procedure : goal.invariant-loop-procedure
invariant-loop-procedure l =
    (l.slots.items ++ map (λ p. procedure_slots (procedure_of p)) (drop l.procedure-index l.procedures) ≡ map (λ p. procedure_slots (procedure_of p)) l.procedures)
    × AllByRecursion (λ p. IsSmallProcedure (procedure_of p)) (drop l.procedure-index l.procedures)
