-- The calls so far, and those that are left.
use Rattle.std.proofs.Common.{length, map, reverse}
use Rattle.ppm_standing.specs.Shown.{rest_of}
use Rattle.ppm_standing.specs.Stood.{IsCounting}
use Rattle.ppm_standing.proofs.telling.count.Given as goal

abbrev pub invariant-loop-rest : goal.invariant-loop-rest
invariant-loop-rest l = IsCounting (map rest_of (reverse l.fn.around.items)) l.calls l.line (map rest_of (reverse l.left.items))

abbrev pub decreases-loop-rest : goal.decreases-loop-rest
decreases-loop-rest l = length l.left.items
