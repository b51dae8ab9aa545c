use Rattle.std.proofs.Common.{◌≡◌, ◌++◌, length}
use Rattle.std.specs.List.{flat_map, AllByRecursion}
use Rattle.ppm_saved.specs.Correct.{LengthFits}
use Rattle.ppm_saved.specs.Text.{array_line}
use Rattle.ppm_saved.proofs.writing.push_arrays.Given as goal

-- what is written, and what is left
abbrev pub invariant-loop-left : goal.invariant-loop-left
invariant-loop-left l =
    (l.text.items ++ flat_map array_line l.left ≡ l.fn.text.items ++ flat_map array_line l.arrays)
    × (AllByRecursion LengthFits l.left → AllByRecursion LengthFits l.arrays)

abbrev pub decreases-loop-left : goal.decreases-loop-left
decreases-loop-left l = length l.left
