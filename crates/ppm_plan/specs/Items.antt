-- The items of plans and of schedules: how they are written, and what a piece of a text reads as.
use Rattle.std.specs.Prelude.{ℕ, ◌≤◌, ◌<◌, ◌^◌, nat_le, ◌&&◌, if◌then◌else◌, List, [], ◌∷◌, ◌++◌, Option, Some, None, decimal}
use Rattle.ppm_plan.specs.declared.fault.Fault.{Fault}
use Rattle.ppm_plan.specs.declared.fault.Fault.TheVariants.{Soft, Hard}
use Rattle.ppm_plan.specs.declared.plan_item.PlanItem.{PlanItem}
use Rattle.ppm_plan.specs.declared.schedule_item.ScheduledAct.{ScheduledAct}
use Rattle.ppm_plan.specs.declared.schedule_item.ScheduledAct.TheVariants.{Step, Fails}
use Rattle.ppm_plan.specs.declared.schedule_item.ScheduleItem.{ScheduleItem}
use Rattle.ppm_pieces.specs.Pieces.{halves_of}
use Rattle.ppm_pieces.specs.Numbers.{number_of}

-- the letter of a fault
abbrev pub letter_of : Fault → ℕ
letter_of Soft = 115
letter_of Hard = 104

-- how an item of a plan is written: `c@ts` or `c@th`
abbrev pub plan_item_text : PlanItem → List ℕ
plan_item_text i = decimal i.processor ++ 64 ∷ decimal i.turn ++ letter_of i.fault ∷ []

-- its numbers are below 2^32
pub record FitsPlanItem (i : PlanItem) : Type 0 where
  pub processor : i.processor < 2 ^ 32
  pub turn : i.turn < 2 ^ 32

-- the most times that one item of a schedule stands for
abbrev pub most_times : ℕ
most_times = 268435456

-- a victim after its sign, where one is stated
abbrev pub victim_text : Option ℕ → List ℕ
victim_text None = []
victim_text (Some v) = 62 ∷ decimal v

-- how one act is written: `c`, `c>v`, `c!s` or `c!h`
abbrev pub act_text : ScheduledAct → List ℕ
act_text (Step c victim) = decimal c ++ victim_text victim
act_text (Fails c fault) = decimal c ++ 33 ∷ letter_of fault ∷ []

-- a number is below 2^32, where it is stated
abbrev pub FitsVictim : Option ℕ → Type 0
FitsVictim None = Unit {0}
FitsVictim (Some v) = v < 2 ^ 32

-- the numbers of an act are below 2^32
abbrev pub FitsAct : ScheduledAct → Type 0
FitsAct (Step c victim) = (c < 2 ^ 32) × FitsVictim victim
FitsAct (Fails c fault) = c < 2 ^ 32

-- a piece writes an item of a schedule: its act, done once, or a step with how often it is done, from 1 on
pub data WritesScheduleItem : List ℕ → ScheduleItem → Type 0 where
  Once : (act : ScheduledAct) → FitsAct act → WritesScheduleItem (act_text act) (record { act = act; times = 1 })
  Times : (c : ℕ) (victim : Option ℕ) (n : ℕ) → FitsAct (Step c victim) → 1 ≤ n → n ≤ most_times
      → WritesScheduleItem (act_text (Step c victim) ++ 42 ∷ decimal n) (record { act = Step c victim; times = n })

-- the fault of a letter, with nothing after it
abbrev pub fault_of : List ℕ → Option Fault
fault_of [] = None
fault_of (b ∷ []) = if nat_le b 115 && nat_le 115 b then Some Soft else (if nat_le b 104 && nat_le 104 b then Some Hard else None)
fault_of (b ∷ c ∷ bs) = None

-- the number in front of a letter that ends a text
abbrev pub ended_at : Option (List ℕ × List ℕ) → Option ℕ
ended_at None = None
ended_at (Some (digits, [])) = number_of digits
ended_at (Some (digits, b ∷ bs)) = None

abbrev pub ended_by : (letter : ℕ) → List ℕ → Option ℕ
ended_by letter bytes = ended_at (halves_of letter bytes)

-- an item with its turn, if there is one
abbrev pub timed : (processor : ℕ) → Fault → Option ℕ → Option PlanItem
timed processor fault None = None
timed processor fault (Some turn) = Some (record { processor = processor; turn = turn; fault = fault })

-- the first of two, else the second
abbrev pub or_else : {A : Type 0} → Option A → Option A → Option A
or_else None other = other
or_else (Some a) other = Some a

-- an item of this processor, if one is named: a turn with the letter of its fault
abbrev pub timed_by : Option ℕ → List ℕ → Option PlanItem
timed_by None bytes = None
timed_by (Some processor) bytes = or_else (timed processor Soft (ended_by 115 bytes)) (timed processor Hard (ended_by 104 bytes))

abbrev pub timed_halves : Option (List ℕ × List ℕ) → Option PlanItem
timed_halves None = None
timed_halves (Some halves) = timed_by (number_of halves.0) halves.1

-- the item of a plan that a piece reads as
abbrev pub plan_item_of : List ℕ → Option PlanItem
plan_item_of piece = timed_halves (halves_of 64 piece)

-- a step of a processor so many times, if one is named
abbrev pub stepping : Option ℕ → (times : ℕ) → Option ScheduleItem
stepping None times = None
stepping (Some c) times = Some (record { act = Step c None; times = times })

-- a step with its victim, if both are named
abbrev pub stepping_at : Option ℕ → Option ℕ → (times : ℕ) → Option ScheduleItem
stepping_at None victim times = None
stepping_at (Some c) None times = None
stepping_at (Some c) (Some v) times = Some (record { act = Step c (Some v); times = times })

abbrev pub steps_of : List ℕ → Option (List ℕ × List ℕ) → (times : ℕ) → Option ScheduleItem
steps_of whole None times = stepping (number_of whole) times
steps_of whole (Some halves) times = stepping_at (number_of halves.0) (number_of halves.1) times

-- so many times, if that is from 1 to the most
abbrev pub times_in_range : Option ℕ → Option ℕ
times_in_range None = None
times_in_range (Some n) = if nat_le 1 n then (if nat_le n most_times then Some n else None) else None

abbrev pub steps_times : List ℕ → Option ℕ → Option ScheduleItem
steps_times step None = None
steps_times step (Some n) = steps_of step (halves_of 62 step) n

abbrev pub repeated : List ℕ → Option (List ℕ × List ℕ) → Option ScheduleItem
repeated whole None = steps_of whole (halves_of 62 whole) 1
repeated whole (Some halves) = steps_times halves.0 (times_in_range (number_of halves.1))

-- a fault of a processor, if both are named
abbrev pub failing : Option ℕ → Option Fault → Option ScheduleItem
failing None fault = None
failing (Some c) None = None
failing (Some c) (Some fault) = Some (record { act = Fails c fault; times = 1 })

abbrev pub failing_or_steps : List ℕ → Option (List ℕ × List ℕ) → Option ScheduleItem
failing_or_steps whole None = repeated whole (halves_of 42 whole)
failing_or_steps whole (Some halves) = failing (number_of halves.0) (fault_of halves.1)

-- the item of a schedule that a piece reads as
abbrev pub schedule_item_of : List ℕ → Option ScheduleItem
schedule_item_of piece = failing_or_steps piece (halves_of 33 piece)
