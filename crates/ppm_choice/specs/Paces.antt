-- The pace of a processor as its past says it, and what is chosen by it.
use Rattle.std.specs.Prelude.{◌≡◌, ◌↔◌, ◌<◌, ℕ, ◌+◌, ◌==◌, ◌^◌, ◌&&◌, not, nat_le, min, if◌then◌else◌, IsTrue, true, false, Option, Some, None}
use Rattle.ppm_plan.specs.declared.fault.Fault.{Fault}
use Rattle.ppm_plan.specs.Forms.{plan_form}
use Rattle.ppm_plan.specs.Refusals.{IsKeeper}
use Rattle.ppm_plan.specs.Schedules.{Planned}
use Rattle.ppm_step.specs.declared.turn.Act.TheVariants.{Step, Quit}
use Rattle.ppm_step.specs.declared.turn.Why.TheVariants.{Turns}
use Rattle.ppm_step.specs.Standings.{Standing}
use Rattle.ppm_step.specs.State.{next_of, seeks_holder, is_work_next}
use Rattle.ppm_choice.specs.declared.choosing.Choice.{Choice}
use Rattle.ppm_choice.specs.declared.choosing.Choice.TheVariants.{Do, Draw, Leave}
use Rattle.ppm_choice.specs.declared.limits.Limits.{Limits}
use Rattle.ppm_choice.specs.declared.pace.Pace.{Pace}
use Rattle.ppm_choice.specs.Deeds.{act_of_fault}
use Rattle.ppm_choice.specs.Obeying.{Past, is_step, fault_of, next_victim, next_act, Rests}
pub use Rattle.ppm_choice.specs.Obeying.{is_seek}

-- the pace of a processor with such a past that stands there
pub record IsPace (plan : Planned) (limits : Limits) (past : Past) (stood : Standing) (pace : Pace) : Type 0 where
  pub keeper : IsTrue pace.keeper ↔ IsKeeper plan_form plan.items pace.processor
  pub acts : pace.acts ≡ min past.acts (2 ^ 32)
  pub work : pace.work ≡ min past.work limits.turns
  pub looks : pace.looks ≡ min past.looks limits.looks
  pub next : pace.next ≡ next_of stood
  pub due : pace.due ≡ seeks_holder stood

-- the looks in a row after steps in a row: so many looks more, or the first since the last work
abbrev pub looks_along : (before work looks : ℕ) → ℕ
looks_along before work looks = if work == 0 then before + looks else looks

-- what a processor chooses: to leave where it rests, to draw where its next act is a step for which a victim is due, else its next act
abbrev pub IsChoice : Planned → Limits → (processor : ℕ) → Past → Standing → Choice → Type 0
IsChoice plan limits processor past stood Leave = Rests plan limits processor past stood
IsChoice plan limits processor past stood Draw =
    (¬ Rests plan limits processor past stood)
    × (next_act plan limits processor past stood ≡ Step (next_victim plan limits processor past))
    × (seeks_holder stood ≡ true)
IsChoice plan limits processor past stood (Do act) =
    (¬ Rests plan limits processor past stood)
    × (next_act plan limits processor past stood ≡ act)
    × ((is_step act && seeks_holder stood) ≡ false)

-- what a processor without faults chooses, by its pace
abbrev pub unfaulted : Limits → Pace → Choice
unfaulted limits pace = if is_work_next pace.next && nat_le limits.turns pace.work then Do (Quit Turns) else (if pace.due then Draw else Do (Step 0))

abbrev pub by_fault : Option Fault → Choice → Choice
by_fault None choice = choice
by_fault (Some fault) choice = Do (act_of_fault fault)

abbrev pub chosen : Planned → Limits → Pace → Choice
chosen plan limits pace =
    if is_seek pace.next && not pace.keeper && nat_le limits.looks pace.looks then Leave else
    by_fault (fault_of plan.items pace.processor pace.acts) (unfaulted limits pace)

-- so many acts come before the plan's next fault, and there is a work turn left for each: a step among them is the next act of a processor that
-- neither is done nor rests and for which no victim is due
abbrev pub AreClear : Planned → Limits → (processor : ℕ) → Past → (steps : ℕ) → Type 0
AreClear plan limits processor past steps =
    (k : ℕ) → k < steps → (fault_of plan.items processor (past.acts + k) ≡ None) × (past.work + k < limits.turns)

-- a number, up to the most
abbrev pub at_most : (most : Option ℕ) → ℕ → ℕ
at_most None n = n
at_most (Some most) n = min n most
