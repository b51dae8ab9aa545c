use Rattle.std.proofs.Common.{◌≡◌, ◌+◌, drop, map}
use Rattle.std.specs.List.{sum}
use Rattle.ppm_tree.specs.Tree.{procedure_of}
use Rattle.ppm_cut_bounds.specs.Capsules.{capsules_of}
use Rattle.ppm_excess.proofs.capsules.capsule_count.Given as goal

-- the capsules so far, and those of the procedures after this
abbrev pub invariant-loop-procedure : goal.invariant-loop-procedure
invariant-loop-procedure l =
    l.count + sum (map capsules_of (map procedure_of (drop l.procedure-index l.procedure-items))) ≡ sum (map capsules_of (map procedure_of l.tree.procedures))
