use Rattle.std.proofs.Common.{◌≡◌, length}
use Rattle.ppm_by_name.specs.Frames.{local_of}
use Rattle.ppm_by_name.proofs.frame.value_in.Given as goal

-- what is left has what is sought
abbrev pub invariant-loop-left : goal.invariant-loop-left
invariant-loop-left l = local_of l.left l.name ≡ local_of l.locals l.name

abbrev pub decreases-loop-left : goal.decreases-loop-left
decreases-loop-left l = length l.left
