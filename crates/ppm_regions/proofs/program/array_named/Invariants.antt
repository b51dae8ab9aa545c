use Rattle.std.proofs.Common.{◌≡◌, drop}
use Rattle.ppm_tree.specs.Tree.{tree_of}
use Rattle.ppm_regions.specs.Scope.{first_named}
use Rattle.ppm_regions.specs.Faults.{array_named}
use Rattle.ppm_regions.proofs.program.array_named.Given as goal

-- what is not looked at yet has the array, if there is one
abbrev pub invariant-loop-array : goal.invariant-loop-array
invariant-loop-array l = first_named (λ a. a.name.name) (drop l.array-index l.array-items) l.name.name ≡ array_named (tree_of l.tree) l.name
