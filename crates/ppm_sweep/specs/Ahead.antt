-- What is ahead in a run: what is left of its list, and the rounds after it.
use Rattle.std.specs.Prelude.{◌≡◌, ◌<◌, ◌-◌, ℕ, nat_lt, if◌then◌else◌, List, [], ◌∷◌, ◌++◌, Option, Some, None}
use Rattle.ppm_plan.specs.declared.schedule_item.ScheduleItem.{ScheduleItem}
use Rattle.ppm_plan.specs.Schedules.{IsActAmong}
use Rattle.ppm_choice.specs.Course.{Due, Listed, InRound}
use Rattle.ppm_choice.specs.Schedules.{listed}
use Rattle.ppm_sweep.specs.declared.ahead.Coming.{Coming}
use Rattle.ppm_sweep.specs.declared.ahead.Coming.TheVariants as coming
use Rattle.ppm_sweep.specs.Sweep.{left_after}

-- among so many processors, what is left of the list, and what is due after it
pub record Left : Type 0 where
  pub processors : ℕ
  pub rest : List ScheduleItem
  pub later : List Due

-- an item that is begun, and others
abbrev pub rest_of : Option ScheduleItem → List ScheduleItem → List ScheduleItem
rest_of None items = items
rest_of (Some i) items = i ∷ items

-- an item done once less, if that leaves any of it
abbrev pub once_less : ScheduleItem → Option ScheduleItem
once_less i = if nat_lt 1 i.times then Some (record { act = i.act; times = i.times - 1 }) else None

-- all that is due
abbrev pub dues_in : Left → List Due
dues_in l = listed l.rest ++ l.later

-- what comes next is due
abbrev pub due_of : Coming → Due
due_of (coming.Listed act) = Listed act
due_of (coming.InRound c) = InRound c

-- the first of what is due, if there is any
abbrev pub first_of : List Due → Option Due
first_of [] = None
first_of (due ∷ dues) = Some due

-- that of the list comes before what is later
abbrev pub first_in : List ScheduleItem → (later : List Due) → Option Due
first_in [] later = first_of later
first_in (i ∷ items) later = Some (Listed i.act)

abbrev pub first_due : Left → Option Due
first_due l = first_in l.rest l.later

-- this was due first, and then what is left now
pub record Passes (due : Due) (old new : Left) : Type 0 where
  pub dues : dues_in old ≡ due ∷ dues_in new
  pub rest : new.rest ≡ left_after old.rest due

-- it names processors that are there
abbrev pub IsComingAmong : (processors : ℕ) → Coming → Type 0
IsComingAmong p (coming.Listed act) = IsActAmong p act
IsComingAmong p (coming.InRound c) = c < p

-- it is a step in a round
abbrev pub IsStepInRound : Due → Type 0
IsStepInRound (Listed act) = ⊥
IsStepInRound (InRound c) = Unit {0}
