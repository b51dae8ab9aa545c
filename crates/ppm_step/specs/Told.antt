-- What is told of a turn, and the record of a processor.
use Rattle.std.specs.Prelude.{ℕ, ◌==◌, if◌then◌else◌, Bool, List, [], ◌∷◌, Option, Some, None}
use Rattle.ppm_cells.specs.declared.shape.Shape.{Shape}
use Rattle.ppm_code.specs.declared.code.CodeParts.{CodeParts}
use Rattle.ppm_words.specs.declared.event.Event.{Event}
use Rattle.ppm_step.specs.declared.ask.Want.{Want}
use Rattle.ppm_step.specs.declared.ask.Want.TheVariants.{Loads, Stores, Exchanges, Nothing}
use Rattle.ppm_step.specs.declared.turn.Act.{Act}
use Rattle.ppm_step.specs.declared.turn.Act.TheVariants.{Step, Soft, Hard, Quit}
use Rattle.ppm_step.specs.declared.turn.Turn.{Turn}
use Rattle.ppm_step.specs.declared.turn.Next.{Next}
use Rattle.ppm_step.specs.declared.turn.Told.{Told}
use Rattle.ppm_step.specs.Standings.{Standing, IsLost, IsPlaced, IsAt, IsWithin, IsRunning, IsBroken, IsDone, unknown_place}
use Rattle.ppm_step.specs.State.{State, stand_of, want_of, happens, along, found_in, next_of, is_work_next as is_work_step, is_work_turn as is_work_act}

-- the place that a processor carries, as far as it knows
abbrev pub place_of : Standing → ℕ
place_of IsLost = unknown_place
place_of (IsPlaced place) = place
place_of (IsAt place restart) = place
place_of (IsWithin seat row) = seat.place
place_of (IsRunning seat rest) = seat.place
place_of (IsBroken place) = place
place_of IsDone = unknown_place

-- an event: its kind, the place, the address of its word, and the word that was loaded, stored or proposed
abbrev pub event : (step place word value : ℕ) → Event
event step place word value = record { step = step; place = place; word = word; value = value }

-- of a word step
abbrev pub step_event : List ℕ → (place : ℕ) → Want → Event
step_event words place (Loads at) = event 1 place at (found_in words (Loads at))
step_event words place (Stores at word) = event 2 place at word
step_event words place (Exchanges at old new) = event 3 place at new
step_event words place Nothing = event 4 place 0 0

-- faults and quits have their own numbers
abbrev pub numbered : (number : ℕ) → Event → Event
numbered number e = record { step = number; place = e.place; word = e.word; value = e.value }

abbrev pub act_event : List ℕ → (place : ℕ) → Act → Want → Event
act_event words place (Step victim) want = step_event words place want
act_event words place Soft want = event 4 place 0 0
act_event words place Hard want = numbered 5 (step_event words place want)
act_event words place (Quit why) want = numbered 6 (step_event words place want)

module _ (s : Shape) (code : CodeParts) where
  -- the event of a turn; none where the processor is done
  abbrev pub event_by : State → Turn → Standing → Option Event
  event_by state turn IsDone = None
  event_by state turn standing =
      Some (act_event state.words (place_of standing) turn.act (want_of s code turn.processor turn.act standing))

  abbrev pub event_of : State → Turn → Option Event
  event_of state turn = event_by state turn (stand_of state turn.processor)

  -- whether it is work
  abbrev pub is_work_next : Next → Bool
  is_work_next next = is_work_step next

  abbrev pub is_work_turn : Act → Standing → Bool
  is_work_turn act standing = is_work_act act standing

  -- what is told of a turn
  abbrev pub told_of : State → Turn → Told
  told_of state turn = record {
    event = event_of state turn;
    work = is_work_turn turn.act (stand_of state turn.processor);
    next = next_of (stand_of (happens s code state turn) turn.processor);
  }

  -- the record of a processor: the events of its turns
  abbrev pub events_in : Option Event → List Event
  events_in None = []
  events_in (Some e) = e ∷ []

  abbrev pub events_by : (processor : ℕ) → State → Turn → List Event
  events_by processor state turn = if turn.processor == processor then events_in (event_of state turn) else []

  abbrev pub record_of : (processor : ℕ) → State → List Turn → List Event
  record_of processor = along s code (events_by processor)
