-- How a sweep goes through the schedules of a place in a run.
use Rattle.std.specs.Prelude.{◌≡◌, ◌≤◌, ◌^◌, ℕ, ◌+◌, ◌-◌, Bool, true, false, List, [], None, Result, Ok, Err}
use Rattle.ppm_words.specs.declared.outcome.Outcome.{Outcome}
use Rattle.ppm_plan.specs.declared.schedule_item.ScheduleItem.{ScheduleItem}
use Rattle.ppm_plan.specs.Schedules.{Scheduled}
use Rattle.ppm_core.specs.Machine.{Holding, seen}
use Rattle.ppm_core.specs.Situation.{Situation}
use Rattle.ppm_choice.specs.Course.{Due}
use Rattle.ppm_sweep.specs.declared.found.Stop.{Stop}
use Rattle.ppm_sweep.specs.declared.found.Tally.{Tally}
use Rattle.ppm_sweep.specs.declared.options.Sweeping.{Sweeping}
use Rattle.ppm_sweep.specs.declared.options.Window.{Window}
use Rattle.ppm_sweep.specs.declared.spot.Spot.{Spot}
use Rattle.ppm_sweep.specs.Ahead.{dues_in}
use Rattle.ppm_sweep.specs.Found.{AllCome, Stops}
use Rattle.ppm_sweep.specs.Meets.{HasArraysOf}
use Rattle.ppm_sweep.specs.Spots.{place_of, Advances}
use Rattle.ppm_sweep.specs.Sweep.{Place, Swept, all_acts, alone, along, before_due, first_place, further, strikes, sweep_from}

-- after the next fault a sweep has one fault less to put, before any act
abbrev pub one_less : Sweeping → Sweeping
one_less o = record { keeper = o.keeper; turns = o.turns; faults = o.faults - 1; window = all_acts o.turns; drawn = None }

-- it over each act of another window
abbrev pub over : Sweeping → Window → Sweeping
over o window = record { keeper = o.keeper; turns = o.turns; faults = o.faults; window = window; drawn = None }

module _ (o : Sweeping) (spot : Spot) where
  -- the schedules that go on from there
  abbrev pub swept_from : List Swept
  swept_from =
      let m = seen spot.machine in
      sweep_from m.shape m.code o.keeper o.turns o.faults o.window spot.faults (place_of spot)

  -- those of them that have further faults
  abbrev pub swept_further : List Swept
  swept_further =
      let m = seen spot.machine in
      further m.shape m.code o.keeper o.turns o.faults o.window spot.faults (place_of spot)

  -- those that go on from a place after the next fault
  abbrev pub swept_deeper : Place → List Swept
  swept_deeper = let m = seen spot.machine in sweep_from m.shape m.code o.keeper o.turns (o.faults - 1) (all_acts o.turns) (spot.faults + 1)

  -- those with the next fault before what is due
  abbrev pub swept_before : Due → List Swept
  swept_before = let m = seen spot.machine in before_due m.shape m.code o.keeper swept_deeper o.window spot.number (place_of spot)

  -- those with a fault of a processor there
  abbrev pub swept_struck : (processor : ℕ) → List Swept
  swept_struck = let m = seen spot.machine in strikes m.shape m.code o.keeper swept_deeper (place_of spot)

  -- those with the next fault before an act that is ahead
  abbrev pub swept_ahead : List Swept
  swept_ahead =
      let m = seen spot.machine in along m.shape m.code o.keeper swept_deeper o.window spot.number (place_of spot) (dues_in spot.ahead)

module _ (m : Situation) (wanted : Outcome) (o : Sweeping) where
  -- what is due first was passed, after all schedules with a fault before it came to the outcome
  pub record Visited (old new : Spot) (tally tally' : Tally) : Type 0 where
    pub due : Due
    pub advances : Advances due old new
    pub all : AllCome m o.turns wanted (swept_before o old due) tally tally'

  -- nothing more is made
  pub record Ended (old : Spot) (tally tally' : Tally) : Type 0 where
    pub none : swept_ahead o old ≡ []
    pub same : tally' ≡ tally

  -- one of them, or that a schedule with a fault ahead came to something else
  abbrev pub Visits : (old new : Spot) → (tally tally' : Tally) → Result Bool Stop → Type 0
  Visits old new tally tally' (Ok true) = Visited old new tally tally'
  Visits old new tally tally' (Ok false) = Ended old tally tally'
  Visits old new tally tally' (Err stop) = Stops m o.turns wanted (swept_ahead o old) stop

-- where there is more, the place is a later one
abbrev pub PassesOn : Bool → (old new : Spot) → Type 0
PassesOn true old new = (due : Due) × Advances due old new
PassesOn false old new = Unit {0}

-- the schedule of the base run
abbrev pub base_of : Situation → List ScheduleItem → Sweeping → Swept
base_of m items o = alone 0 (first_place m.shape m.code o.keeper o.turns m.state items)

-- those of a sweep whose first fault comes before an act in a window
abbrev pub swept_in : Situation → List ScheduleItem → Sweeping → Window → List Swept
swept_in m items o window = further m.shape m.code o.keeper o.turns o.faults window 0 (first_place m.shape m.code o.keeper o.turns m.state items)

-- a sweep may begin: what it goes through is for the processors of the machine, which has done nothing, and has the arrays of the outcome
pub record IsStart (schedule : Scheduled) (machine : Holding) (o : Sweeping) (wanted : Outcome) : Type 0 where
  pub processors : schedule.processors ≡ (seen machine).shape.processors
  pub turns : o.turns ≤ 2 ^ 40
  pub fresh : (seen machine).turns ≡ 0
  pub arrays : HasArraysOf (seen machine) wanted
