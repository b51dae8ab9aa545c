use Rattle.std.proofs.Common.{◌≡◌, length}
use Rattle.ppm_by_name.specs.Frames.{region_of}
use Rattle.ppm_by_name.proofs.frame.region_in.Given as goal

-- what is left has what is sought
abbrev pub invariant-loop-left : goal.invariant-loop-left
invariant-loop-left l = region_of l.left l.name ≡ region_of l.regions l.name

abbrev pub decreases-loop-left : goal.decreases-loop-left
decreases-loop-left l = length l.left
