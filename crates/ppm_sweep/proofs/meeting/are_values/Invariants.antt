use Rattle.std.proofs.Common.{◌≡◌, ◌↔◌, length, map}
use Rattle.ppm_words.specs.TwosComplement.{value_of}
use Rattle.ppm_sweep.proofs.meeting.are_values.Given as goal

-- what is left decides as the whole does
abbrev pub invariant-loop-left : goal.invariant-loop-left
invariant-loop-left l = (map value_of l.left ≡ l.wanted) ↔ (map value_of l.words ≡ l.values)

abbrev pub decreases-loop-left : goal.decreases-loop-left
decreases-loop-left l = length l.left
