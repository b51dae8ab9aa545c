use Rattle.std.proofs.Common.{◌≡◌, ◌≤◌, ◌++◌, drop, length}
use Rattle.ppm_depth.specs.Image.{arrays_in, word_count}
use Rattle.ppm_strands_command.proofs.arrays.to_arrays.Given as goal

-- the arrays so far, and those that are left
abbrev pub invariant-loop-array : goal.invariant-loop-array
invariant-loop-array l = record {
  arrays : l.named.items ++ arrays_in (drop l.array-index l.arrays) l.rest ≡ arrays_in l.arrays l.fn.words;
  enough : word_count (drop l.array-index l.arrays) ≤ length l.rest;
}
