use Rattle.std.proofs.Common.{[], map, take}
use Rattle.ppm_tree.specs.Tree.{tree_of}
use Rattle.ppm_regions.specs.Uses.{Fills}
use Rattle.ppm_regions.specs.Deciding.{IsLeastOf}
use Rattle.ppm_regions.proofs.program.of_inputs.Given as goal

-- the first fault of the inputs so far
abbrev pub invariant-loop-input : goal.invariant-loop-input
invariant-loop-input l = IsLeastOf (tree_of l.tree) [] (map Fills (take l.input-index l.input-items)) l.found
