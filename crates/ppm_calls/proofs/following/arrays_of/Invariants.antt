use Rattle.std.proofs.Common.{◌≡◌, map}
use Rattle.std.specs.List.{range_with_len}
use Rattle.ppm_words.specs.TwosComplement.{value_of}
use Rattle.ppm_core.specs.Machine.{seen}
use Rattle.ppm_core.specs.Situation.{array_in}
use Rattle.ppm_calls.proofs.following.arrays_of.Given as goal

-- the values of so many arrays
abbrev pub invariant-loop-number : goal.invariant-loop-number
invariant-loop-number l =
    l.arrays.items ≡ map (λ number. map value_of (array_in (seen l.machine) number)) (range_with_len 0 l.number)
