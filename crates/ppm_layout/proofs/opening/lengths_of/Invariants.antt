use Rattle.std.proofs.Common.{◌≡◌, length, map, take}
use Rattle.ppm_words.specs.declared.named_array.NamedArray.{NamedArray}
use Rattle.ppm_layout.proofs.opening.lengths_of.Given as goal

-- the lengths so far
abbrev pub invariant-loop-array : goal.invariant-loop-array
invariant-loop-array l = l.lengths.items ≡ map (λ (a : NamedArray). length a.values) (take l.array-index l.arrays)
