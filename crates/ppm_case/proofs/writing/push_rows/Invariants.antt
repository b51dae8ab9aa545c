use Rattle.std.proofs.Common.{◌≡◌, ◌++◌, map, length}
use Rattle.std.specs.List.{flat_map}
use Rattle.ppm_case.specs.Spelling.{spaced}
use Rattle.ppm_case.specs.Text.{rows_of, row_text}
use Rattle.ppm_case.proofs.writing.push_rows.Given as goal

-- the rows so far, and those of the values that are left
abbrev pub invariant-loop-row : goal.invariant-loop-row
invariant-loop-row l =
    l.text.items ++ flat_map spaced (map row_text (rows_of l.left)) ≡ l.fn.text.items ++ flat_map spaced (map row_text (rows_of l.values))

abbrev pub decreases-loop-row : goal.decreases-loop-row
decreases-loop-row l = length l.left
