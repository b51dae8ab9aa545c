use Rattle.std.proofs.Common.{◌≡◌, map, take}
use Rattle.ppm_tree.specs.Program.{initial_array}
use Rattle.ppm_regions.proofs.initial.all_initial.Given as goal

-- the arrays so far
abbrev pub invariant-loop-array : goal.invariant-loop-array
invariant-loop-array l = l.all.items ≡ map (initial_array l.inputs) (take l.array-index l.arrays)
