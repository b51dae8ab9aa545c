-- Plans and schedules for a number of processors, and what an item of a schedule keeps.
use Rattle.std.specs.Prelude.{◌≡◌, ℕ, ◌<◌, List, Option, Some, None}
use Rattle.std.specs.Int.{IsInRange}
use Rattle.ppm_plan.specs.declared.plan_item.PlanItem.{PlanItem}
use Rattle.ppm_plan.specs.declared.schedule_item.ScheduledAct.{ScheduledAct}
use Rattle.ppm_plan.specs.declared.schedule_item.ScheduledAct.TheVariants.{Step, Fails}
use Rattle.ppm_plan.specs.declared.schedule_item.ScheduleItem.{ScheduleItem}
use Rattle.ppm_plan.specs.Items.{most_times}

-- a plan: for how many processors it is, and its items in the order of the text
pub record Planned : Type 0 where
  pub processors : ℕ
  pub items : List PlanItem

-- a schedule: for how many processors it is, and its items in the order of the text
pub record Scheduled : Type 0 where
  pub processors : ℕ
  pub items : List ScheduleItem

-- a victim, where one is stated, is one of so many processors
abbrev pub IsVictimAmong : ℕ → Option ℕ → Type 0
IsVictimAmong p None = Unit {0}
IsVictimAmong p (Some v) = v < p

-- an act names none but so many processors
abbrev pub IsActAmong : ℕ → ScheduledAct → Type 0
IsActAmong p (Step c victim) = (c < p) × IsVictimAmong p victim
IsActAmong p (Fails c fault) = c < p

-- how often an act may be done: a step from 1 to the most times, a fault once
abbrev pub MayBeDone : ScheduledAct → ℕ → Type 0
MayBeDone (Step c victim) n = IsInRange 1 most_times n
MayBeDone (Fails c fault) n = n ≡ 1

-- an item of a schedule for so many processors
pub record IsItemAmong (p : ℕ) (i : ScheduleItem) : Type 0 where
  pub act : IsActAmong p i.act
  pub times : MayBeDone i.act i.times
