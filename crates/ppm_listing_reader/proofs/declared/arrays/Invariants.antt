use Rattle.std.proofs.Common.{◌≡◌, length}
use Rattle.ppm_listing_reader.specs.Places.{arrays_in}
use Rattle.ppm_listing_reader.proofs.declared.arrays.Given as goal

-- the arrays in the lines that are left are the arrays in all
abbrev pub invariant-loop-left : goal.invariant-loop-left
invariant-loop-left l = arrays_in l.left ≡ arrays_in l.lines

abbrev pub decreases-loop-left : goal.decreases-loop-left
decreases-loop-left l = length l.left
