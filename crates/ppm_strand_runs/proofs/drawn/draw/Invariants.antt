use Rattle.std.proofs.Common.{◌≡◌, ◌++◌}
use Rattle.ppm_strand_runs.specs.Draws.{steps_drawn}
use Rattle.ppm_strand_runs.proofs.drawn.draw.Given as goal

-- the steps so far, and those that are still to be drawn
abbrev pub invariant-loop-left : goal.invariant-loop-left
invariant-loop-left l = l.items.items ++ steps_drawn l.strands l.left l.words ≡ steps_drawn l.strands l.count l.fn.words

abbrev pub decreases-loop-left : goal.decreases-loop-left
decreases-loop-left l = l.left
