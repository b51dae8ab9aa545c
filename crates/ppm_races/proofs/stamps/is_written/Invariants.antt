use Rattle.std.proofs.Common.{length}
use Rattle.ppm_races.proofs.StampLemmas.{WritesAs}
use Rattle.ppm_races.proofs.stamps.is_written.Given as goal

-- what is left decides
abbrev pub invariant-loop-left : goal.invariant-loop-left
invariant-loop-left l = WritesAs l.word l.log l.left

abbrev pub decreases-loop-left : goal.decreases-loop-left
decreases-loop-left l = length l.left
