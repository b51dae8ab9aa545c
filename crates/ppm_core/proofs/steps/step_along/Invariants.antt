use Rattle.std.proofs.Common.{◌-◌, ◌≡◌, ◌≤◌}
use Rattle.ppm_cells.specs.Memory.{AreWordsOf}
use Rattle.ppm_core.specs.Moments.{moment, Leads}
use Rattle.ppm_step.specs.Locals.{IsLocal, standing_of}
use Rattle.ppm_core.proofs.steps.step_along.Given as goal

-- the steps so far lead to where the processor stands
abbrev pub invariant-loop-steps : goal.invariant-loop-steps
invariant-loop-steps l =
    Leads l.shape l.code l.fn.local.own l.steps.made l.steps.work l.steps.forks l.steps.takes
    (moment l.fn.words.items (standing_of l.shape l.code l.fn.local))
    (moment l.words.items (standing_of l.shape l.code l.local))
    × IsLocal l.shape l.code l.local
    × AreWordsOf l.shape l.words.items
    × (l.local.own ≡ l.fn.local.own)
    × (l.steps.made ≤ l.most)
    × (l.steps.work ≤ l.steps.made)
    × (l.steps.forks ≤ l.steps.made)
    × (l.steps.takes ≤ l.steps.made)

abbrev pub decreases-loop-steps : goal.decreases-loop-steps
decreases-loop-steps l = l.most - l.steps.made
