use Rattle.std.proofs.Common.{◌≡◌, ◌+◌, drop, map}
use Rattle.std.specs.List.{AllByRecursion}
use Rattle.ppm_tree.specs.Tree.{procedure_of}
use Rattle.ppm_tree.specs.State.{procedure_named}
use Rattle.ppm_cut_code.specs.Statements.{number_of}
use Rattle.ppm_cut.specs.Counts.{IsSmallProcedure}
use Rattle.ppm_cut.proofs.callees.Callees.find.Given as goal

-- the first one is among those that follow
abbrev pub invariant-loop-procedure : goal.invariant-loop-procedure
invariant-loop-procedure l =
    (l.number ≡ l.procedure-index)
    × (l.number + number_of (map procedure_of (drop l.procedure-index l.procedure-items)) l.name ≡ number_of (map procedure_of l.procedure-items) l.name)
    × AllByRecursion (λ p. IsSmallProcedure (procedure_of p)) (drop l.procedure-index l.procedure-items)
    × (procedure_named (map procedure_of (drop l.procedure-index l.procedure-items)) l.name ≡ procedure_named (map procedure_of l.procedure-items) l.name)
