use Rattle.std.proofs.Common.{◌≤◌, ◌-◌}
use Rattle.ppm_cells.specs.Memory.{AreWordsOf}
use Rattle.ppm_step.specs.Frames.{ending}
use Rattle.ppm_core.specs.declared.ends.EndStep.TheVariants.{Before}
use Rattle.ppm_core.specs.Ends.{HasEnded}
use Rattle.ppm_core.proofs.ends.end_along.Given as goal

-- the stores so far lead to this one
abbrev pub invariant-loop-made : goal.invariant-loop-made
invariant-loop-made l = (l.made ≤ l.fn.most)
    × HasEnded l.shape l.code l.seat (ending l.code l.home l.end) (ending l.code l.home l.end 0) l.fn.words.items l.words.items l.made (Before l.n)
    × AreWordsOf l.shape l.words.items

abbrev pub decreases-loop-made : goal.decreases-loop-made
decreases-loop-made l = l.fn.most - l.made
