use Rattle.std.proofs.Common.{◌≡◌, take}
use Rattle.ppm_words.specs.Inputs.{value_count}
use Rattle.ppm_layout.proofs.root.region_of.Given as goal

-- the values of the arrays so far
abbrev pub invariant-loop-array : goal.invariant-loop-array
invariant-loop-array l = l.start ≡ value_count (take l.array-index (take l.fn.number l.arrays))
