use Rattle.std.proofs.Common.{◌≡◌, ◌++◌}
use Rattle.ppm_plan.specs.Draws.{seeded}
use Rattle.ppm_sweep.proofs.DrawLemmas.{acts_drawn}
use Rattle.ppm_sweep.proofs.drawing.draw.Given as goal

-- the acts so far, and those that are still to be drawn
abbrev pub invariant-loop-left : goal.invariant-loop-left
invariant-loop-left l =
    l.windows.items ++ acts_drawn l.from l.among l.left l.words ≡ acts_drawn l.from l.among l.fn.draws.runs (seeded l.fn.draws.seed)

abbrev pub decreases-loop-left : goal.decreases-loop-left
decreases-loop-left l = l.left
