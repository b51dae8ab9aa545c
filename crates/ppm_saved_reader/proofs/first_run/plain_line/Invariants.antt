use Rattle.std.proofs.Common.{length}
use Rattle.ppm_saved_reader.proofs.FrontLemmas.{IsFront}
use Rattle.ppm_saved_reader.proofs.first_run.plain_line.Given as goal

-- the digits so far
abbrev pub invariant-loop-left : goal.invariant-loop-left
invariant-loop-left l = IsFront l.text l.word l.left

abbrev pub decreases-loop-left : goal.decreases-loop-left
decreases-loop-left l = length l.left
