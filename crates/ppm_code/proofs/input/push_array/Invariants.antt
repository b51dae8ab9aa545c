use Rattle.std.proofs.Common.{◌≡◌, ◌++◌, map, take}
use Rattle.ppm_words.specs.TwosComplement.{word_of}
use Rattle.ppm_code.proofs.input.push_array.Given as goal

-- the words so far
abbrev pub invariant-loop-value : goal.invariant-loop-value
invariant-loop-value l = l.words.items ≡ l.fn.words.items ++ map word_of (take l.value-index l.values)
