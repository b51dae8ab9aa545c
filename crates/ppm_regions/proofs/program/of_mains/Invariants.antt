use Rattle.std.proofs.Common.{[], map, take}
use Rattle.std.specs.List.{flat_map}
use Rattle.ppm_tree.specs.Tree.{procedure_of, tree_of}
use Rattle.ppm_regions.specs.Uses.{uses_of_main}
use Rattle.ppm_regions.specs.Deciding.{IsLeastOf}
use Rattle.ppm_regions.proofs.program.of_mains.Given as goal

-- the first fault of the procedures so far
abbrev pub invariant-loop-procedure : goal.invariant-loop-procedure
invariant-loop-procedure l =
    IsLeastOf (tree_of l.tree) [] (flat_map uses_of_main (map procedure_of (take l.procedure-index l.procedure-items))) l.found
