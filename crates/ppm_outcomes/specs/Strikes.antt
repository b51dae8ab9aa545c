-- The faults of a plan and of a schedule, and those that undo work where all obey the plan.
use Rattle.std.specs.Prelude.{◌≤◌, ℕ, ◌+◌, if◌then◌else◌, List, [], ◌∷◌}
use Rattle.std.specs.List.{list_any}
use Rattle.ppm_cells.specs.declared.shape.Shape.{Shape}
use Rattle.ppm_code.specs.declared.code.CodeParts.{CodeParts}
use Rattle.ppm_plan.specs.declared.plan_item.PlanItem.{PlanItem}
use Rattle.ppm_plan.specs.declared.schedule_item.ScheduledAct.{ScheduledAct}
use Rattle.ppm_plan.specs.declared.schedule_item.ScheduleItem.{ScheduleItem}
use Rattle.ppm_plan.specs.Faults.{is_at, acts_of}
use Rattle.ppm_plan.specs.Schedules.{Planned}
use Rattle.ppm_step.specs.State.{State}
use Rattle.ppm_step.specs.declared.turn.Turn.{Turn}
use Rattle.ppm_core.specs.Situation.{Situation}
use Rattle.ppm_choice.specs.Obeying.{ObeyAll}
use Rattle.ppm_choice.specs.Schedules.{schedule_turns}
use Rattle.ppm_choice.specs.declared.limits.Limits.{Limits}
pub use Rattle.ppm_following.specs.OrderedFaults.{fails}
use Rattle.ppm_runs.specs.Deques.{one_if}
use Rattle.ppm_outcomes.specs.Meant.{faults_in, struck_in, undone_in}

-- for how many turns of processors the items of a plan have a fault: those of one turn are one
abbrev pub fault_count : List PlanItem → ℕ
fault_count [] = 0
fault_count (item ∷ items) = (if list_any (is_at item.processor item.turn) items then 0 else 1) + fault_count items

-- where each processor of a machine obeys a plan, no more faults strike a row of work than the plan has
abbrev pub StrikesArePlanned : Type 0
StrikesArePlanned = (plan : Planned) (limits : Limits) (m : Situation) (turns : List Turn) → ObeyAll plan limits m.shape m.code m.state turns
    → struck_in m turns ≤ fault_count plan.items

-- nor do more undo work
abbrev pub UndoneArePlanned : Type 0
UndoneArePlanned = (plan : Planned) (limits : Limits) (m : Situation) (turns : List Turn) → ObeyAll plan limits m.shape m.code m.state turns
    → undone_in m turns ≤ fault_count plan.items

-- how many of the acts that the items of a schedule stand for are faults: an item that is one stands for one
abbrev pub faults_among : List ScheduledAct → ℕ
faults_among [] = 0
faults_among (act ∷ acts) = one_if (fails act) + faults_among acts

abbrev pub scheduled_faults : List ScheduleItem → ℕ
scheduled_faults items = faults_among (acts_of items)

-- in the run of a schedule, of however many acts, no more turns are faults than it has
abbrev pub FaultsAreScheduled : Type 0
FaultsAreScheduled = (s : Shape) (code : CodeParts) (state : State) (items : List ScheduleItem) (turns : ℕ)
    → faults_in (schedule_turns s code state items turns) ≤ scheduled_faults items
