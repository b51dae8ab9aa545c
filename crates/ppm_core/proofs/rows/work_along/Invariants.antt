use Rattle.std.proofs.Common.{◌-◌, ◌≡◌, ◌≤◌, Some}
use Rattle.ppm_cells.specs.Memory.{AreWordsOf}
use Rattle.ppm_cells.specs.Restart.{IsRestart}
use Rattle.ppm_core.specs.Moments.{moment, Leads}
use Rattle.ppm_step.specs.Standings.{IsAt}
use Rattle.ppm_core.proofs.rows.work_along.Given as goal

-- the steps so far lead to the place with this restart
abbrev pub invariant-loop-count : goal.invariant-loop-count
invariant-loop-count l =
    Leads l.shape l.code l.fn.local.own l.count.made l.count.work l.count.forks l.count.takes
    (moment l.fn.words.items (IsAt l.fn.place (Some l.fn.restart)))
    (moment l.words.items (IsAt l.fn.place (Some l.at)))
    × IsRestart l.at
    × AreWordsOf l.shape l.words.items
    × (l.local.own ≡ l.fn.local.own)
    × (l.count.made ≤ l.most)
    × (l.count.work ≤ l.count.made)
    × (l.count.forks ≤ l.count.made)
    × (l.count.takes ≤ l.count.made)

abbrev pub decreases-loop-count : goal.decreases-loop-count
decreases-loop-count l = l.most - l.count.made
