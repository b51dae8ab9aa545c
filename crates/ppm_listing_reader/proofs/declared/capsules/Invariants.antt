use Rattle.std.proofs.Common.{◌≡◌, ◌++◌, length}
use Rattle.ppm_listing_reader.specs.Places.{capsules_in}
use Rattle.ppm_listing_reader.proofs.declared.capsules.Given as goal

-- what is found, and what is left
abbrev pub invariant-loop-left : goal.invariant-loop-left
invariant-loop-left l = l.capsules.items ++ capsules_in l.left ≡ capsules_in l.lines

abbrev pub decreases-loop-left : goal.decreases-loop-left
decreases-loop-left l = length l.left
