use Rattle.std.proofs.Common.{map, take}
use Rattle.std.specs.List.{flat_map}
use Rattle.ppm_tree.specs.Tree.{procedure_of, tree_of}
use Rattle.ppm_regions.specs.Uses.{sites_of_procedure}
use Rattle.ppm_regions.specs.Deciding.{IsLeast}
use Rattle.ppm_regions.proofs.program.in_procedures.Given as goal

-- the first fault of the procedures so far
abbrev pub invariant-loop-procedure : goal.invariant-loop-procedure
invariant-loop-procedure l =
    IsLeast (tree_of l.tree) (flat_map (sites_of_procedure (tree_of l.tree)) (map procedure_of (take l.procedure-index l.procedure-items))) l.found
