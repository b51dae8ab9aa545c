use Rattle.std.proofs.Common.{◌≡◌, ◌+◌, ◌≤◌, length}
use Rattle.ppm_listing_reader.specs.declared.place.Place.TheVariants.{AtVersion}
use Rattle.ppm_listing_reader.specs.Places.{counted}
use Rattle.ppm_listing_reader.proofs.FirstLemmas.{IsPassed}
use Rattle.ppm_listing_reader.proofs.first.first_fault.Given as goal

-- no line so far breaks a rule, and those that are left stand at the place
abbrev pub invariant-loop-left : goal.invariant-loop-left
invariant-loop-left l = record {
  passed : IsPassed l.code AtVersion l.lines l.place l.left l.number;
  length : l.number + length l.left ≡ length l.lines;
  counted : counted l.place ≤ l.number;
}

abbrev pub decreases-loop-left : goal.decreases-loop-left
decreases-loop-left l = length l.left
