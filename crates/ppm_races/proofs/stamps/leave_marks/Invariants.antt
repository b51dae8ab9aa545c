use Rattle.std.proofs.Common.{length}
use Rattle.ppm_races.specs.Beside.{stands_beside}
use Rattle.ppm_races.specs.Touches.{AreThere}
use Rattle.ppm_races.proofs.StampLemmas.{MarksAs}
use Rattle.ppm_races.proofs.stamps.leave_marks.Given as goal

-- what is left is still to be marked
abbrev pub invariant-loop-left : goal.invariant-loop-left
invariant-loop-left l = record {
  marks : MarksAs (stands_beside l.marks) l.time l.fn.visits.wrote.items l.fn.visits.touched.items l.log l.visits.wrote.items l.visits.touched.items l.left;
  wrote : AreThere (length l.visits.wrote.items) l.left;
  touched : AreThere (length l.visits.touched.items) l.left;
}

abbrev pub decreases-loop-left : goal.decreases-loop-left
decreases-loop-left l = length l.left
