use Rattle.std.proofs.Common.{◌≡◌, length}
use Rattle.ppm_racy_listing.specs.Plain.{first_wrong as first_of}
use Rattle.ppm_racy_listing.proofs.reading.first_wrong.Given as goal

-- the answer is that for those that are left
abbrev pub invariant-loop-left : goal.invariant-loop-left
invariant-loop-left l = first_of l.line l.left ≡ first_of 1 l.olds

abbrev pub decreases-loop-left : goal.decreases-loop-left
decreases-loop-left l = length l.left
