use Rattle.std.proofs.Common.{◌≤◌, ◌-◌}
use Rattle.ppm_cells.specs.Memory.{AreWordsOf}
use Rattle.ppm_core.specs.Rounds.{LedTo}
use Rattle.ppm_core.specs.declared.capsule.Way.TheVariants.{Made}
use Rattle.ppm_core.proofs.capsule.go_along.Given as goal

-- the steps so far lead to this instruction
abbrev pub invariant-loop-made : goal.invariant-loop-made
invariant-loop-made l = (l.made ≤ l.fn.most)
    × LedTo l.shape l.code l.seat l.home l.instrs l.fn.from l.fn.registers l.registers l.fn.words.items l.words.items l.made (Made l.at)
    × AreWordsOf l.shape l.words.items

abbrev pub decreases-loop-made : goal.decreases-loop-made
decreases-loop-made l = l.fn.most - l.made
