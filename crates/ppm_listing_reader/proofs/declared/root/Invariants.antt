use Rattle.std.proofs.Common.{◌≡◌, length}
use Rattle.ppm_listing_reader.specs.Places.{root_in}
use Rattle.ppm_listing_reader.proofs.declared.root.Given as goal

-- the root in the lines that are left is the root in all
abbrev pub invariant-loop-left : goal.invariant-loop-left
invariant-loop-left l = root_in l.left ≡ root_in l.lines

abbrev pub decreases-loop-left : goal.decreases-loop-left
decreases-loop-left l = length l.left
