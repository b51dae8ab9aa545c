use Rattle.std.proofs.Common.{false, ◌≡◌, ◌≤◌, ◌-◌}
use Rattle.ppm_stretch.specs.Steady.{Moves, StandsAt}
use Rattle.ppm_stretch.proofs.capsule.go_along.Given as goal

abbrev pub invariant-loop-made : goal.invariant-loop-made
invariant-loop-made g l = (l.made ≤ l.fn.most) × (l.mine.table_id ≡ l.fn.mine.table_id)
    × Moves g.W.Watch.told l.words.shared.key l.place.own l.fn.mine.me l.mine.me l.fn.watch l.watch l.made l.made 0 false
    × StandsAt l.words.shared.key l.shape l.code l.place l.home l.instrs l.at l.registers l.mine.me

abbrev pub decreases-loop-made : goal.decreases-loop-made
decreases-loop-made g l = l.fn.most - l.made
