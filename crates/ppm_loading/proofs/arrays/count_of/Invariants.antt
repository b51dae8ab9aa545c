use Rattle.std.proofs.Common.{◌≡◌, ◌+◌, length}
use Rattle.ppm_words.specs.Inputs.{value_count}
use Rattle.ppm_loading.proofs.arrays.count_of.Given as goal

-- the values so far, and those that are left
abbrev pub invariant-loop-left : goal.invariant-loop-left
invariant-loop-left l = l.count + value_count l.left ≡ value_count l.arrays

abbrev pub decreases-loop-left : goal.decreases-loop-left
decreases-loop-left l = length l.left
