use Rattle.std.proofs.Common.{◌≡◌, ◌++◌, ◌∷◌, map, length}
use Rattle.std.specs.List.{AllByRecursion}
use Rattle.ppm_listing.specs.Listing.{number}
use Rattle.ppm_listing.specs.Correct.{Fits}
use Rattle.ppm_listing.proofs.listing.push_root.Given as goal

-- what is written, and what is left
abbrev pub invariant-loop-left : goal.invariant-loop-left
invariant-loop-left l =
    (l.operands.items ++ map number l.left ≡ number l.fn.root ∷ map number l.arrays)
    × (AllByRecursion Fits (map number l.left) → AllByRecursion Fits (map number l.arrays))

abbrev pub decreases-loop-left : goal.decreases-loop-left
decreases-loop-left l = length l.left
