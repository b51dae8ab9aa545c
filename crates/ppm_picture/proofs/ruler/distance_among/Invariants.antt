use Rattle.std.proofs.Common.{◌≡◌, length}
use Rattle.ppm_picture.specs.Ruler.{distance_among}
use Rattle.ppm_picture.proofs.ruler.distance_among.Given as goal

-- the answer is that for those that are left
abbrev pub invariant-loop-left : goal.invariant-loop-left
invariant-loop-left l = distance_among l.left l.acts ≡ distance_among l.among l.acts

abbrev pub decreases-loop-left : goal.decreases-loop-left
decreases-loop-left l = length l.left
