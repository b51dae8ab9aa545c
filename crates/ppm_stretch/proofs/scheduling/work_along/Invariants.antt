use Rattle.std.proofs.Common.{◌≡◌, ◌≤◌, ◌-◌, false, Some}
use Rattle.ppm_cells.specs.Restart.{IsRestart}
use Rattle.ppm_step.specs.Standings.{IsAt}
use Rattle.ppm_table.specs.Run.{stands_by, deeds_in}
use Rattle.ppm_stretch.specs.Steady.{Moves}
use Rattle.ppm_stretch.proofs.scheduling.work_along.Given as goal

abbrev pub invariant-loop-so_far : goal.invariant-loop-so_far
invariant-loop-so_far g l = (l.so_far.made ≤ l.fn.most) × (l.so_far.work ≤ l.so_far.made) × (l.so_far.looks ≤ l.so_far.made)
    × (l.mine.table_id ≡ l.fn.mine.table_id)
    × Moves g.W.Watch.told l.memory.words.now.shared.key l.fn.local.own l.fn.mine.me l.mine.me l.fn.watch l.watch l.so_far.made l.so_far.work l.so_far.looks
    l.so_far.exchanged
    × (stands_by l.memory.words.now.shared.key l.fn.local.own (deeds_in l.mine.me.0) ≡ IsAt l.place (Some l.at)) × IsRestart l.at
    × (l.so_far.refused ≡ false) × (l.local.own ≡ l.fn.local.own)

abbrev pub decreases-loop-so_far : goal.decreases-loop-so_far
decreases-loop-so_far g l = l.fn.most - l.so_far.made
