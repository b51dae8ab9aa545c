use Rattle.std.proofs.Common.{length}
use Rattle.ppm_races.specs.Beside.{meets, stands_beside}
use Rattle.ppm_races.specs.Touches.{AreThere}
use Rattle.ppm_races.proofs.StampLemmas.{IsPassed}
use Rattle.ppm_races.proofs.stamps.first_met.Given as goal

-- what was looked at meets nothing
abbrev pub invariant-loop-left : goal.invariant-loop-left
invariant-loop-left l = record {
  passed : IsPassed (meets (stands_beside l.marks) l.visits.wrote.items l.visits.touched.items) l.log l.left;
  wrote : AreThere (length l.visits.wrote.items) l.left;
  touched : AreThere (length l.visits.touched.items) l.left;
}

abbrev pub decreases-loop-left : goal.decreases-loop-left
decreases-loop-left l = length l.left
