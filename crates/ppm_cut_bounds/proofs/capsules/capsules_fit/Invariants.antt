use Rattle.std.proofs.Common.{◌≡◌, ◌+◌, drop, map}
use Rattle.std.specs.List.{sum}
use Rattle.ppm_tree.specs.Tree.{procedure_of}
use Rattle.ppm_cut_bounds.specs.Capsules.{capsules_of}
use Rattle.ppm_cut_bounds.specs.Bounds.{capsule_limit}
use Rattle.ppm_cut_bounds.proofs.capsules.capsules_fit.Given as goal

-- what is left, and what the procedures so far need
abbrev pub invariant-loop-procedure : goal.invariant-loop-procedure
invariant-loop-procedure l =
    l.left + sum (map (λ p. capsules_of (procedure_of p)) l.procedures) ≡ capsule_limit + sum (map (λ p. capsules_of (procedure_of p)) (drop l.procedure-index l.procedures))
