-- The faults of a plan, and the acts of a schedule.
use Rattle.std.specs.Prelude.{◌≡◌, ◌≤◌, ◌<◌, ℕ, Bool, ◌&&◌, ◌==◌, if◌then◌else◌, List, Option, Some, None, IsSome}
use Rattle.std.specs.List.{list_any, flat_map}
use Rattle.std.proofs.Math.ListN.{replicate}
use Rattle.ppm_plan.specs.declared.fault.Fault.{Fault}
use Rattle.ppm_plan.specs.declared.fault.Fault.TheVariants.{Soft, Hard}
use Rattle.ppm_plan.specs.declared.plan_item.PlanItem.{PlanItem}
use Rattle.ppm_plan.specs.declared.schedule_item.ScheduledAct.{ScheduledAct}
use Rattle.ppm_plan.specs.declared.schedule_item.ScheduleItem.{ScheduleItem}
use Rattle.ppm_plan.specs.Forms.{is_hard}

-- an item is of a processor's turn
abbrev pub is_at : (processor turn : ℕ) → PlanItem → Bool
is_at processor turn i = (i.processor == processor) && (i.turn == turn)

abbrev pub is_hard_at : (processor turn : ℕ) → PlanItem → Bool
is_hard_at processor turn i = (i.processor == processor) && (i.turn == turn) && is_hard i.fault

-- the fault of a processor's turn: none where no item is of it; hard where a hard one is
abbrev pub fault_at : List PlanItem → (processor turn : ℕ) → Option Fault
fault_at items processor turn =
    if list_any (is_hard_at processor turn) items then Some Hard else
    (if list_any (is_at processor turn) items then Some Soft else None)

-- the least turn with a fault, from a turn on, if there is one
abbrev pub IsLeastFrom : (ℕ → Option Fault) → (from : ℕ) → Option ℕ → Type 0
IsLeastFrom faults from None = (turn : ℕ) → from ≤ turn → faults turn ≡ None
IsLeastFrom faults from (Some next) =
    (from ≤ next) × IsSome (faults next) × ((turn : ℕ) → from ≤ turn → turn < next → faults turn ≡ None)

-- the next turn of a processor, from a turn on, for which it has a fault, if there is one
abbrev pub IsNextFault : List PlanItem → (processor from : ℕ) → Option ℕ → Type 0
IsNextFault items processor = IsLeastFrom (fault_at items processor)

-- the acts that the items of a schedule stand for, in order
abbrev pub acts_of : List ScheduleItem → List ScheduledAct
acts_of items = flat_map (λ i. replicate i.times i.act) items
