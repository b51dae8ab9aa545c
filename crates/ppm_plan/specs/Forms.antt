-- What plans and schedules have in common: pieces that read as items, processors that items name, and those that they kill.
use Rattle.std.specs.Prelude.{ℕ, Bool, true, false, ◌||◌, ◌&&◌, ◌==◌, not, nat_lt, List, Option, Some, None}
use Rattle.ppm_plan.specs.declared.fault.Fault.{Fault}
use Rattle.ppm_plan.specs.declared.fault.Fault.TheVariants.{Soft, Hard}
use Rattle.ppm_plan.specs.declared.plan_item.PlanItem.{PlanItem}
use Rattle.ppm_plan.specs.declared.schedule_item.ScheduledAct.{ScheduledAct}
use Rattle.ppm_plan.specs.declared.schedule_item.ScheduledAct.TheVariants.{Step, Fails}
use Rattle.ppm_plan.specs.declared.schedule_item.ScheduleItem.{ScheduleItem}
use Rattle.ppm_plan.specs.Items.{plan_item_of, schedule_item_of}

-- a form of text: the item that a piece reads as, whether an item names a processor that so many do not have, and whether it kills one
pub record Form (A : Type 0) : Type 0 where
  pub reading : List ℕ → Option A
  pub is_outside : ℕ → A → Bool
  pub kills : ℕ → A → Bool

abbrev pub is_hard : Fault → Bool
is_hard Soft = false
is_hard Hard = true

-- plans
abbrev pub plan_form : Form PlanItem
plan_form = record {
  reading = plan_item_of;
  is_outside = λ p i. not (nat_lt i.processor p);
  kills = λ c i. is_hard i.fault && (i.processor == c);
}

-- a victim that is stated is none of so many
abbrev pub victim_outside : ℕ → Option ℕ → Bool
victim_outside p None = false
victim_outside p (Some v) = not (nat_lt v p)

abbrev pub act_outside : ℕ → ScheduledAct → Bool
act_outside p (Step c victim) = not (nat_lt c p) || victim_outside p victim
act_outside p (Fails c fault) = not (nat_lt c p)

abbrev pub act_kills : ℕ → ScheduledAct → Bool
act_kills c (Step d victim) = false
act_kills c (Fails d fault) = is_hard fault && (d == c)

-- schedules
abbrev pub schedule_form : Form ScheduleItem
schedule_form = record {
  reading = schedule_item_of;
  is_outside = λ p i. act_outside p i.act;
  kills = λ c i. act_kills c i.act;
}
