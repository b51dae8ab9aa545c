use Rattle.std.proofs.Common.{◌-◌, ◌≡◌, ◌≤◌, Some}
use Rattle.ppm_cells.specs.Memory.{AreWordsOf}
use Rattle.ppm_cells.specs.Restart.{IsRestart}
use Rattle.ppm_core.specs.Moments.{moment, StepsTo}
use Rattle.ppm_step.specs.Standings.{IsAt}
use Rattle.ppm_core.proofs.frames.rounds.Given as goal

-- the capsules so far lead to the place with this restart
abbrev pub invariant-loop-steps : goal.invariant-loop-steps
invariant-loop-steps l =
    StepsTo l.shape l.code l.fn.local.own l.steps.made l.steps.work
    (moment l.fn.words.items (IsAt l.fn.place (Some l.fn.restart)))
    (moment l.words.items (IsAt l.fn.place (Some l.at)))
    × IsRestart l.at
    × AreWordsOf l.shape l.words.items
    × (l.local.own ≡ l.fn.local.own)
    × (l.steps.made ≤ l.most)
    × (l.steps.work ≤ l.steps.made)

abbrev pub decreases-loop-steps : goal.decreases-loop-steps
decreases-loop-steps l = l.most - l.steps.made
