use Rattle.std.proofs.Common.{◌≡◌, map, take}
use Rattle.ppm_words.specs.TwosComplement.{value_of}
use Rattle.ppm_loading.proofs.arrays.to_values.Given as goal

-- the values so far
abbrev pub invariant-loop-word : goal.invariant-loop-word
invariant-loop-word l = l.values.items ≡ map value_of (take l.word-index l.words)
