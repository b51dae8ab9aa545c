-- The faults that a schedule orders.
use Rattle.std.specs.Prelude.{ℕ, ◌+◌, Bool, true, false, if◌then◌else◌, List, [], ◌∷◌}
use Rattle.ppm_plan.specs.declared.schedule_item.ScheduledAct.{ScheduledAct}
use Rattle.ppm_plan.specs.declared.schedule_item.ScheduledAct.TheVariants.{Step, Fails}
use Rattle.ppm_plan.specs.declared.schedule_item.ScheduleItem.{ScheduleItem}

-- whether an act is a fault
abbrev pub fails : ScheduledAct → Bool
fails (Step processor victim) = false
fails (Fails processor fault) = true

-- how many faults the items of a schedule order: an item that is a fault is one
abbrev pub ordered_faults : List ScheduleItem → ℕ
ordered_faults [] = 0
ordered_faults (item ∷ items) = (if fails item.act then 1 else 0) + ordered_faults items
