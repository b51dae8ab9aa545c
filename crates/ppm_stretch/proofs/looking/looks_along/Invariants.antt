use Rattle.std.proofs.Common.{false, ◌≡◌, ◌≤◌, ◌-◌}
use Rattle.ppm_step.specs.Standings.{IsWithin}
use Rattle.ppm_step.specs.declared.row.Row.TheVariants.{Now}
use Rattle.ppm_step.specs.declared.row.Then.TheVariants.{Load}
use Rattle.ppm_table.specs.Run.{stands_by, deeds_in}
use Rattle.ppm_stretch.specs.Looking.{IsLooking}
use Rattle.ppm_stretch.specs.Steady.{Moves}
use Rattle.ppm_stretch.proofs.looking.looks_along.Given as goal

abbrev pub invariant-loop-made : goal.invariant-loop-made
invariant-loop-made g l = (l.made ≤ l.fn.most) × (l.mine.table_id ≡ l.fn.mine.table_id)
    × Moves g.W.Watch.told l.words.shared.key l.fn.local.own l.fn.mine.me l.mine.me l.fn.watch l.watch l.made 0 l.made false
    × (stands_by l.words.shared.key l.fn.local.own (deeds_in l.mine.me.0) ≡ IsWithin l.place (Now (Load l.point)))
    × (l.local.own ≡ l.fn.local.own) × IsLooking l.shape l.place l.point

abbrev pub decreases-loop-made : goal.decreases-loop-made
decreases-loop-made g l = l.fn.most - l.made
