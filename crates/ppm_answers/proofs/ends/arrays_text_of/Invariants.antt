use Rattle.std.proofs.Common.{◌≡◌, take}
use Rattle.std.specs.List.{flat_map}
use Rattle.ppm_answers.specs.Texts.{array_text}
use Rattle.ppm_answers.proofs.ends.arrays_text_of.Given as goal

abbrev pub invariant-loop-array : goal.invariant-loop-array
invariant-loop-array l = l.text.items ≡ flat_map array_text (take l.array-index l.arrays)
