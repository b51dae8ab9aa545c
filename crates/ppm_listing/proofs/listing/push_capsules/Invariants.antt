use Rattle.std.proofs.Common.{◌≡◌, ◌++◌, ◌+◌, length}
use Rattle.std.specs.List.{AllByRecursion}
use Rattle.ppm_listing.specs.Listing.{text_of, capsule_lines}
use Rattle.ppm_listing.specs.Correct.{LineFits}
use Rattle.ppm_listing.proofs.listing.push_capsules.Given as goal

-- what is written, and what is left
abbrev pub invariant-loop-left : goal.invariant-loop-left
invariant-loop-left l =
    (l.text.items ++ text_of (capsule_lines l.number l.left) ≡ l.fn.text.items ++ text_of (capsule_lines 0 l.capsules))
    × (AllByRecursion LineFits (capsule_lines l.number l.left) → AllByRecursion LineFits (capsule_lines 0 l.capsules))
    × (l.number + length l.left ≡ length l.capsules)

abbrev pub decreases-loop-left : goal.decreases-loop-left
decreases-loop-left l = length l.left
