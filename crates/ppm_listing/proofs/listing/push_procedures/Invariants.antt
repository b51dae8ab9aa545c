use Rattle.std.proofs.Common.{◌≡◌, ◌++◌, ◌+◌, length}
use Rattle.std.specs.List.{AllByRecursion}
use Rattle.ppm_listing.specs.Listing.{text_of, procedure_lines}
use Rattle.ppm_listing.specs.Correct.{LineFits}
use Rattle.ppm_listing.proofs.listing.push_procedures.Given as goal

-- what is written, and what is left
abbrev pub invariant-loop-left : goal.invariant-loop-left
invariant-loop-left l =
    (l.text.items ++ text_of (procedure_lines l.number l.left) ≡ l.fn.text.items ++ text_of (procedure_lines 0 l.procedures))
    × (AllByRecursion LineFits (procedure_lines l.number l.left) → AllByRecursion LineFits (procedure_lines 0 l.procedures))
    × (l.number + length l.left ≡ length l.procedures)

abbrev pub decreases-loop-left : goal.decreases-loop-left
decreases-loop-left l = length l.left
