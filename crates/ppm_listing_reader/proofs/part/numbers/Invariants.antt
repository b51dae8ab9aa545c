use Rattle.std.proofs.Common.{◌≡◌, ◌++◌, map, length}
use Rattle.ppm_listing_reader.specs.Forms.{number_of}
use Rattle.ppm_listing_reader.proofs.part.numbers.Given as goal

-- the numbers so far, and those of what is left
abbrev pub invariant-loop-left : goal.invariant-loop-left
invariant-loop-left l = l.numbers.items ++ map number_of l.left ≡ map number_of l.tokens

abbrev pub decreases-loop-left : goal.decreases-loop-left
decreases-loop-left l = length l.left
