use Rattle.std.proofs.Common.{◌≡◌, ◌++◌}
use Rattle.ppm_plan.specs.Draws.{items_drawn}
use Rattle.ppm_plan.proofs.seeded.draw.Given as goal

-- the items so far, and those that are still to be drawn
abbrev pub invariant-loop-left : goal.invariant-loop-left
invariant-loop-left l = l.items.items ++ items_drawn l.processors l.left l.words ≡ items_drawn l.processors l.count l.fn.words

abbrev pub decreases-loop-left : goal.decreases-loop-left
decreases-loop-left l = l.left
