-- The schedules of a sweep: a base schedule, and it with faults put before acts of its run.
use Rattle.std.specs.Prelude.{ℕ, zero, suc, ◌+◌, ◌-◌, ◌==◌, nat_lt, nat_le, ◌&&◌, if◌then◌else◌, Bool, true, false, List, [], ◌∷◌, ◌++◌, length, Option, Some, None}
use Rattle.std.specs.List.{flat_map}
use Rattle.ppm_cells.specs.declared.shape.Shape.{Shape}
use Rattle.ppm_code.specs.declared.code.CodeParts.{CodeParts}
use Rattle.ppm_plan.specs.declared.fault.Fault.{Fault}
use Rattle.ppm_plan.specs.declared.fault.Fault.TheVariants.{Soft, Hard}
use Rattle.ppm_plan.specs.declared.schedule_item.ScheduledAct.{ScheduledAct}
use Rattle.ppm_plan.specs.declared.schedule_item.ScheduledAct.TheVariants.{Step, Fails}
use Rattle.ppm_plan.specs.declared.schedule_item.ScheduleItem.{ScheduleItem}
use Rattle.ppm_plan.specs.Items.{most_times}
use Rattle.ppm_plan.specs.Refusals.{item_limit}
use Rattle.ppm_step.specs.State.{State}
use Rattle.ppm_choice.specs.Course.{Due, Listed, InRound, Course, act_of, processor_of, is_made, behind}
use Rattle.ppm_choice.specs.Schedules.{dues_of, beginning}
use Rattle.ppm_sweep.specs.declared.options.Window.{Window}

-- a schedule of a sweep: its items, and how many faults the sweep has put among them
pub record Swept : Type 0 where
  pub items : List ScheduleItem
  pub faults : ℕ

-- the victim that is stated is the same, or none is
abbrev pub same_victim : Option ℕ → Option ℕ → Bool
same_victim None None = true
same_victim None (Some v) = false
same_victim (Some u) None = false
same_victim (Some u) (Some v) = u == v

-- both are a step of one processor, with the same victim stated
abbrev pub same_step : ScheduledAct → ScheduledAct → Bool
same_step (Step c u) (Step d v) = (c == d) && same_victim u v
same_step (Step c u) (Fails d fault) = false
same_step (Fails c fault) act = false

-- an item and then an act: steps in a row are one item, faults are items of their own
abbrev pub joined : ScheduleItem → ScheduledAct → List ScheduleItem
joined i act =
    if same_step i.act act && nat_lt i.times most_times
    then record { act = i.act; times = i.times + 1 } ∷ []
    else i ∷ record { act = act; times = 1 } ∷ []

-- items with one act more at their end
abbrev pub with_act : List ScheduleItem → ScheduledAct → List ScheduleItem
with_act [] act = record { act = act; times = 1 } ∷ []
with_act (i ∷ []) act = joined i act
with_act (i ∷ j ∷ items) act = i ∷ with_act (j ∷ items) act

-- items without their first act
abbrev pub after_act : List ScheduleItem → List ScheduleItem
after_act [] = []
after_act (i ∷ items) = if nat_lt 1 i.times then record { act = i.act; times = i.times - 1 } ∷ items else items

-- what is left of a list after what is due: that of the list is its first act
abbrev pub left_after : List ScheduleItem → Due → List ScheduleItem
left_after rest (Listed act) = after_act rest
left_after rest (InRound c) = rest

-- a place in a run: the run under way, the items of its schedule up to here, and those that are left of its list
pub record Place : Type 0 where
  pub course : Course
  pub front : List ScheduleItem
  pub rest : List ScheduleItem

-- the acts of a run before which faults are put, counted from 0
abbrev pub is_in : Window → (number : ℕ) → Bool
is_in window number = nat_le window.from number && nat_lt number (window.from + window.acts)

-- all acts of a run, which has at most so many
abbrev pub all_acts : (turns : ℕ) → Window
all_acts turns = record { from = 0; acts = turns }

-- the schedule of a place that goes on to its end, with so many faults put before
abbrev pub alone : (faults : ℕ) → Place → Swept
alone faults p = record { items = p.front ++ p.rest; faults = faults }

-- it has no more items than a schedule may
abbrev pub is_short : Swept → Bool
is_short v = nat_le (length v.items) item_limit

module _ (s : Shape) (code : CodeParts) where
  -- what is written of what is due: an act of the list, made or not; and a step that is made after the list
  abbrev pub written : Course → List ScheduleItem → Due → List ScheduleItem
  written w front (Listed act) = with_act front act
  written w front (InRound c) = if is_made s code w (InRound c) then with_act front (Step c None) else front

  -- the place after what is due
  abbrev pub passed : Place → Due → Place
  passed p due = record {
    course = behind s code p.course due;
    front = written p.course p.front due;
    rest = left_after p.rest due;
  }

  -- the place after a fault that strikes there
  abbrev pub struck : Place → (processor : ℕ) → Fault → Place
  struck p c fault = record {
    course = behind s code p.course (Listed (Fails c fault));
    front = with_act p.front (Fails c fault);
    rest = p.rest;
  }

  -- a sweep with a fault of a processor there: a soft one, and then a hard one, but not of the keeper
  abbrev pub strikes : (keeper : ℕ) → (Place → List Swept) → Place → (processor : ℕ) → List Swept
  strikes keeper sweep p c = sweep (struck p c Soft) ++ (if c == keeper then [] else sweep (struck p c Hard))

  -- a sweep with a fault before what is due: of the processor whose act it is, if the act is made and is one of those
  abbrev pub before_due : (keeper : ℕ) → (Place → List Swept) → Window → (number : ℕ) → Place → Due → List Swept
  before_due keeper sweep window number p due =
      if is_made s code p.course due && is_in window number then strikes keeper sweep p (processor_of (act_of due)) else []

  -- how many acts are made then
  abbrev pub number_after : (number : ℕ) → Place → Due → ℕ
  number_after number p due = if is_made s code p.course due then number + 1 else number

  -- a sweep with a fault before each of what is due, in order
  abbrev pub along : (keeper : ℕ) → (Place → List Swept) → Window → (number : ℕ) → Place → List Due → List Swept
  along keeper sweep window number p [] = []
  along keeper sweep window number p (due ∷ dues) =
      before_due keeper sweep window number p due
      ++ along keeper sweep window (number_after number p due) (passed p due) dues

  module _ (keeper turns : ℕ) where
    -- The schedules that go on from a place, which has so many faults before it, and have further ones, so many at most: the next before each act of
    -- its run that is in the window, and each later one before any later act. A schedule comes before those that have more after its last fault.
    abbrev pub further : (more : ℕ) → Window → (faults : ℕ) → Place → List Swept
    further zero window faults p = []
    further (suc more) window faults p =
        along keeper (λ q. alone (faults + 1) q ∷ further more (all_acts turns) (faults + 1) q) window 0 p (dues_of s.processors p.rest turns)

    -- those that go on from a place: the one without a further fault, and then those with one
    abbrev pub sweep_from : (more : ℕ) → Window → (faults : ℕ) → Place → List Swept
    sweep_from more window faults p = alone faults p ∷ further more window faults p

    -- the place at which the run of a schedule begins
    abbrev pub first_place : State → List ScheduleItem → Place
    first_place state items = record { course = beginning state turns; front = []; rest = items }

    -- the schedules of a sweep over a base schedule from a state, with so many faults in each at most: the base schedule, and then those with the
    -- first fault before an act in a window, for one window after another
    abbrev pub sweep_of : State → List ScheduleItem → (most : ℕ) → List Window → List Swept
    sweep_of state items most windows =
        let p = first_place state items in alone 0 p ∷ flat_map (λ window. further most window 0 p) windows
