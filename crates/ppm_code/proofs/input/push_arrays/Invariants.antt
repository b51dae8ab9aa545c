use Rattle.std.proofs.Common.{◌≡◌, ◌++◌, take}
use Rattle.ppm_code.specs.Inputs.{words_in}
use Rattle.ppm_code.proofs.input.push_arrays.Given as goal

-- the words of the arrays so far
abbrev pub invariant-loop-array : goal.invariant-loop-array
invariant-loop-array l = l.words.items ≡ l.fn.words.items ++ words_in (take l.array-index l.arrays)
