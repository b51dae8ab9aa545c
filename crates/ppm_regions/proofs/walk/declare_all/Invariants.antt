use Rattle.std.proofs.Common.{◌++◌, map, take}
use Rattle.ppm_tree.specs.Tree.{ProgramTree}
use Rattle.ppm_regions.specs.Scope.{of_parameter}
use Rattle.ppm_regions.specs.Kept.{Becomes, seen}
use Rattle.ppm_regions.specs.Uses.{declaration_sites}
use Rattle.ppm_regions.specs.Deciding.{IsLeast}
use Rattle.ppm_regions.proofs.walk.declare_all.Given as goal

-- the parameters so far are declared, and their first fault is found
abbrev pub invariant-loop-parameter : goal.invariant-loop-parameter
invariant-loop-parameter l = record {
  least : (t : ProgramTree) → IsLeast t (declaration_sites (seen l.fn.scope) (map of_parameter (take l.parameter-index l.parameters))) l.found;
  scope : Becomes (λ s. s ++ map of_parameter (take l.parameter-index l.parameters)) l.fn.scope l.scope;
}
