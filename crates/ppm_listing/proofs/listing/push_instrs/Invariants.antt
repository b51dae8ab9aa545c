use Rattle.std.proofs.Common.{◌≡◌, ◌++◌, map, length}
use Rattle.std.specs.List.{AllByRecursion}
use Rattle.ppm_listing.specs.Listing.{text_of, instr_line}
use Rattle.ppm_listing.specs.Correct.{LineFits}
use Rattle.ppm_listing.proofs.listing.push_instrs.Given as goal

-- what is written, and what is left
abbrev pub invariant-loop-left : goal.invariant-loop-left
invariant-loop-left l =
    (l.text.items ++ text_of (map instr_line l.left) ≡ l.fn.text.items ++ text_of (map instr_line l.instrs))
    × (AllByRecursion LineFits (map instr_line l.left) → AllByRecursion LineFits (map instr_line l.instrs))

abbrev pub decreases-loop-left : goal.decreases-loop-left
decreases-loop-left l = length l.left
