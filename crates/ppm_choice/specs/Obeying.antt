-- When a processor obeys a plan and limits.
use Rattle.std.specs.Prelude.{◌≡◌, ◌<◌, ◌≤◌, ◌⊎◌, ℕ, zero, suc, ◌+◌, ◌^◌, ◌&&◌, not, nat_le, nat_lt, if◌then◌else◌, Bool, true, false, List, [], ◌∷◌, Option, Some, None, get_or}
use Rattle.std.specs.List.{All}
use Rattle.ppm_cells.specs.declared.shape.Shape.{Shape}
use Rattle.ppm_code.specs.declared.code.CodeParts.{CodeParts}
use Rattle.ppm_plan.specs.declared.fault.Fault.{Fault}
use Rattle.ppm_plan.specs.declared.plan_item.PlanItem.{PlanItem}
use Rattle.ppm_plan.specs.Draws.{victims_of}
use Rattle.ppm_plan.specs.Faults.{fault_at}
use Rattle.ppm_plan.specs.Forms.{plan_form}
use Rattle.ppm_plan.specs.Refusals.{IsKeeper, is_killed}
use Rattle.ppm_plan.specs.Schedules.{Planned}
use Rattle.ppm_step.specs.declared.turn.Act.{Act}
use Rattle.ppm_step.specs.declared.turn.Act.TheVariants.{Step, Quit}
use Rattle.ppm_step.specs.declared.turn.Next.{Next}
use Rattle.ppm_step.specs.declared.turn.Next.TheVariants.{Seek}
use Rattle.ppm_step.specs.declared.turn.Turn.{Turn}
use Rattle.ppm_step.specs.declared.turn.Why.TheVariants.{Turns}
use Rattle.ppm_step.specs.Standings.{Standing, IsDone}
use Rattle.ppm_step.specs.Among.{IsTurnAmong}
use Rattle.ppm_step.specs.State.{State, stand_of, after, next_of, seeks_holder, is_work_next, is_work_turn, draws as draws_there}
use Rattle.ppm_words.specs.declared.idle.Idle.{Idle}
use Rattle.ppm_words.specs.declared.idle.Idle.TheVariants.{Leave, Park}
use Rattle.ppm_choice.specs.declared.limits.Limits.{Limits}
use Rattle.ppm_choice.specs.Deeds.{Deed, deeds_of, act_of_fault}
pub use Rattle.ppm_step.specs.State.{is_step}

-- what a processor has done so far: how many acts, how many of them were work turns, how many looks since the last of these, and how
-- many victims it has drawn
pub record Past : Type 0 where
  pub acts : ℕ
  pub work : ℕ
  pub looks : ℕ
  pub drawn : ℕ

abbrev pub nothing_done : Past
nothing_done = record { acts = 0; work = 0; looks = 0; drawn = 0 }

-- a work turn is a step of work; each other act is a look
abbrev pub is_work_deed : Deed → Bool
is_work_deed deed = is_work_turn deed.act deed.stood

-- a step draws a victim where one is due
abbrev pub draws : Deed → Bool
draws deed = draws_there deed.act deed.stood

abbrev pub behind : Past → Deed → Past
behind past deed = record {
  acts = past.acts + 1;
  work = if is_work_deed deed then past.work + 1 else past.work;
  looks = if is_work_deed deed then 0 else past.looks + 1;
  drawn = if draws deed then past.drawn + 1 else past.drawn;
}

-- after a rest the looks count from 0 again
abbrev pub rested : Past → Past
rested past = record { acts = past.acts; work = past.work; looks = 0; drawn = past.drawn }

-- whether the coming step is the load of the finish word before a Seek
abbrev pub is_seek : Next → Bool
is_seek Seek = true
is_seek next = false

-- whether a processor that rests parks
abbrev pub is_park : Idle → Bool
is_park Park = true
is_park Leave = false

-- whether no processor below the number is spared, and whether this one is the keeper
abbrev pub all_killed : List PlanItem → ℕ → Bool
all_killed items zero = true
all_killed items (suc n) = is_killed plan_form n items && all_killed items n

abbrev pub keeps : List PlanItem → ℕ → Bool
keeps items processor = not (is_killed plan_form processor items) && all_killed items processor

-- the fault that a plan has for an act; a plan names turns below 2^32 alone
abbrev pub fault_of : List PlanItem → (processor act : ℕ) → Option Fault
fault_of items processor act = if nat_lt act (2 ^ 32) then fault_at items processor act else None

-- a fault comes first, if there is one
abbrev pub faulted : Option Fault → Act → Act
faulted None act = act
faulted (Some fault) act = act_of_fault fault

module _ (plan : Planned) (limits : Limits) (processor : ℕ) where
  -- its next victim
  abbrev pub next_victim : Past → ℕ
  next_victim past = get_or (victims_of limits.seed processor plan.processors (past.drawn + 1)) past.drawn 0

  -- its next act: the fault that the plan has for it; else it quits where work comes next and its work turns are spent; else it makes
  -- its step, with its next victim where one is due
  abbrev pub next_step : Past → Standing → Act
  next_step past stood = Step (if seeks_holder stood then next_victim past else 0)

  abbrev pub next_unless_faulted : Past → Standing → Act
  next_unless_faulted past stood = if is_work_next (next_of stood) && nat_le limits.turns past.work then Quit Turns else next_step past stood

  abbrev pub next_act : Past → Standing → Act
  next_act past stood = faulted (fault_of plan.items processor past.acts) (next_unless_faulted past stood)

  -- it rests where it isn't the keeper, would seek work, and has looked so often in a row
  pub record Rests (past : Past) (stood : Standing) : Type 0 where
    pub no_keeper : ¬ IsKeeper plan_form plan.items processor
    pub seeks : next_of stood ≡ Seek
    pub looked : limits.looks ≤ past.looks

  -- whether it does, and then parks
  abbrev pub parks : Past → Standing → Bool
  parks past stood =
      is_park limits.idle && (is_seek (next_of stood) && not (keeps plan.items processor) && nat_le limits.looks past.looks)

  -- the past with which it acts there: where it parks, after its rest
  abbrev pub awake : Past → Standing → Past
  awake past stood = if parks past stood then rested past else past

  -- its acts stop where it is done, or where it rests and is to leave
  abbrev pub Stops : Past → Standing → Type 0
  Stops past stood = (stood ≡ IsDone) ⊎ ((limits.idle ≡ Leave) × Rests past stood)

  -- with such a past it obeys in these acts, and stands there after them: it makes its next act wherever its acts don't stop, and no other;
  -- before it, it has parked where it was to
  abbrev pub Obeys : Past → List Deed → (stands : Standing) → Type 0
  Obeys past [] stands = Stops past stands
  Obeys past (deed ∷ deeds) stands =
      (¬ Stops past deed.stood) × (deed.act ≡ next_act past deed.stood) × Obeys (behind (awake past deed.stood) deed) deeds stands

  -- it obeys in a run
  abbrev pub ObeysIn : Shape → CodeParts → State → List Turn → Type 0
  ObeysIn s code state turns =
      Obeys nothing_done (deeds_of s code processor state turns) (stand_of (after s code state turns) processor)

-- each processor of a machine obeys in a run, whose turns name its processors alone
pub record ObeyAll (plan : Planned) (limits : Limits) (s : Shape) (code : CodeParts) (state : State) (turns : List Turn) : Type 0 where
  pub among : All (IsTurnAmong s.processors) turns
  pub obeys : (processor : ℕ) → processor < s.processors → ObeysIn plan limits processor s code state turns
