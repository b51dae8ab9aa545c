use Rattle.std.proofs.Common.{◌≡◌, ◌++◌, length}
use Rattle.ppm_listing_reader.specs.Places.{instrs_in}
use Rattle.ppm_listing_reader.proofs.declared.instrs.Given as goal

-- what is found, and what is left
abbrev pub invariant-loop-left : goal.invariant-loop-left
invariant-loop-left l = l.instrs.items ++ instrs_in l.left ≡ instrs_in l.lines

abbrev pub decreases-loop-left : goal.decreases-loop-left
decreases-loop-left l = length l.left
