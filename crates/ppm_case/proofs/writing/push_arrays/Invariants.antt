use Rattle.std.proofs.Common.{◌≡◌, ◌++◌, length}
use Rattle.std.specs.List.{flat_map}
use Rattle.ppm_case.specs.Spelling.{array_line}
use Rattle.ppm_case.specs.Text.{written}
use Rattle.ppm_case.proofs.writing.push_arrays.Given as goal

-- the lines so far, and those of the arrays that are left
abbrev pub invariant-loop-left : goal.invariant-loop-left
invariant-loop-left l =
    l.text.items ++ flat_map (λ a. array_line (written a)) l.left ≡ l.fn.text.items ++ flat_map (λ a. array_line (written a)) l.arrays

abbrev pub decreases-loop-left : goal.decreases-loop-left
decreases-loop-left l = length l.left
