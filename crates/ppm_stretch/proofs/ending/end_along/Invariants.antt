use Rattle.std.proofs.Common.{false, ◌≡◌, ◌≤◌, ◌<◌, ◌+◌, ◌-◌}
use Rattle.ppm_step.specs.Frames.{ending}
use Rattle.ppm_step.specs.Standings.{running}
use Rattle.ppm_table.specs.Run.{stands_by, deeds_in}
use Rattle.ppm_stretch.specs.Steady.{Moves}
use Rattle.ppm_stretch.proofs.ending.end_along.Given as goal

abbrev pub invariant-loop-made : goal.invariant-loop-made
invariant-loop-made g l = (l.made ≤ l.fn.most) × (l.n ≡ l.fn.from + l.made) × (0 < l.made → l.fn.from + l.made ≤ 11) × (l.mine.table_id ≡ l.fn.mine.table_id)
    × Moves g.W.Watch.told l.words.shared.key l.place.own l.fn.mine.me l.mine.me l.fn.watch l.watch l.made l.made 0 false
    × (stands_by l.words.shared.key l.place.own (deeds_in l.mine.me.0) ≡ running l.shape l.place (ending l.code l.home l.end l.n))

abbrev pub decreases-loop-made : goal.decreases-loop-made
decreases-loop-made g l = l.fn.most - l.made
