use Rattle.std.proofs.Common.{[], map, take}
use Rattle.ppm_tree.specs.Tree.{tree_of}
use Rattle.ppm_regions.specs.Uses.{MainTakes}
use Rattle.ppm_regions.specs.Deciding.{IsLeastOf}
use Rattle.ppm_regions.proofs.program.of_parameters.Given as goal

-- the first fault of the parameters so far
abbrev pub invariant-loop-parameter : goal.invariant-loop-parameter
invariant-loop-parameter l = IsLeastOf (tree_of l.tree) [] (map MainTakes (take l.parameter-index l.parameters)) l.found
