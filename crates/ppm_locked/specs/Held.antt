-- What stands under a lock: the words and processors after one run from an opening, of which each work turn is booked.
use Rattle.std.specs.Prelude.{◌≡◌, ◌==◌, ◌+◌, ◌≤◌, ◌<◌, ◌≢◌, if◌then◌else◌, not, ℕ, Bool, true, false, List, [], ◌∷◌, ◌++◌, length, get_or, take, Some, None, slice_get}
use Rattle.std.specs.List.{All, sum_by}
use Rattle.std.proofs.Common.{arith}
use mathlib.Core.List.{IsPrefix}
use Rattle.ppm_cells.specs.Limits.{IsWithinLimits}
use Rattle.ppm_cells.specs.declared.shape.Takeover.TheVariants.{ByPlaces}
use Rattle.ppm_code.specs.Code.{IsCode}
use Rattle.ppm_step.specs.declared.turn.Act.{Act}
use Rattle.ppm_step.specs.declared.turn.Act.TheVariants.{Step, Soft, Hard, Quit}
use Rattle.ppm_step.specs.declared.turn.Next.{Next}
use Rattle.ppm_step.specs.declared.turn.Next.TheVariants.{Done}
use Rattle.ppm_step.specs.declared.turn.Told.{Told}
use Rattle.ppm_step.specs.declared.turn.Turn.{Turn}
use Rattle.ppm_step.specs.declared.turn.Why.TheVariants.{Turns, Watch}
use Rattle.ppm_step.specs.Among.{IsTurnAmong}
use Rattle.ppm_step.specs.State.{along, is_work_next, next_of, opening, seeks_holder, stand_of, work_of}
use Rattle.ppm_step.specs.Told.{told_of}
use Rattle.ppm_core.specs.Machine.{Holding}
use Rattle.ppm_core.specs.Situation.{Situation, finish_in, run_on}

-- how many work turns a processor makes in a list of turns from an opening
abbrev pub spent_by : Situation → (processor : ℕ) → List Turn → ℕ
spent_by first processor turns = sum_by (λ own. if own == processor then 1 else 0) (along first.shape first.code work_of first.state turns)

-- a processor quits, since its turns are spent
abbrev pub quit_of : (processor : ℕ) → Turn
quit_of processor = record { processor = processor; act = Quit Turns }

-- each such quit stands after so many work turns of its processor
abbrev pub QuitWhenSpent : (most : ℕ) → Situation → List Turn → Type 0
QuitWhenSpent most first turns =
    (before processor : ℕ) → slice_get turns before ≡ Some (quit_of processor) → spent_by first processor (take before turns) ≡ most

-- one run from an opening came to this. Its turns name processors of the machine alone, no processor has made more than so many work turns
-- in it, and none quits before its turns are spent
pub record IsRun (first : Situation) (most : ℕ) (turns : List Turn) (m : Situation) : Type 0 where
  pub comes : m ≡ run_on first turns
  pub among : All (IsTurnAmong first.shape.processors) turns
  pub few : (processor : ℕ) → spent_by first processor turns ≤ most
  pub quits : QuitWhenSpent most first turns

-- some such run did
abbrev pub HasRun : Situation → (most : ℕ) → Situation → Type 0
HasRun first most m = (turns : List Turn) × IsRun first most turns m

-- and these are the work turns that each processor has made in it
pub record IsCounted (first : Situation) (spent : List ℕ) (turns : List Turn) : Type 0 where
  pub count : length spent ≡ first.shape.processors
  pub each : (processor : ℕ) → processor < first.shape.processors → get_or spent processor 0 ≡ spent_by first processor turns

abbrev pub HasCountedRun : Situation → (most : ℕ) → Situation → (spent : List ℕ) → Type 0
HasCountedRun first most m spent = (turns : List Turn) × (IsRun first most turns m × IsCounted first spent turns)

-- what stands under the lock: a machine, the work turns that each processor has made, and all turns that were made
pub record Kept : Type 0 where
  pub machine : Holding
  pub spent : List ℕ
  pub history : List Turn

-- the act that is done where one is asked: a work turn, where the turns are spent, is the quit, and the quit before that is a step
abbrev pub act_done : (is_spent : Bool) → Next → Act → Act
act_done true next (Step victim) = if is_work_next next then Quit Turns else Step victim
act_done false next (Step victim) = Step victim
act_done is_spent next Soft = Soft
act_done is_spent next Hard = Hard
act_done true next (Quit Turns) = Quit Turns
act_done false next (Quit Turns) = Step 0
act_done is_spent next (Quit Watch) = Quit Watch

-- the turn that a processor makes, which has made so many work turns, where it is asked for an act
abbrev pub turn_done : (most : ℕ) → (m : Situation) → (made processor : ℕ) → Act → Turn
turn_done most m made processor act = record {
  processor = processor;
  act = act_done (made == most) (next_of (stand_of m.state processor)) act;
}

-- whether a finish word says that the run has ended
abbrev pub is_set : (finish : ℕ) → Bool
is_set finish = not (finish == 0)

-- a seat: its processor, the work turns that are booked for it, whether the run had ended after a turn of its processor, whether a victim is
-- due for the coming step, and the run up to the last turn of its processor
pub record Seated : Type 0 where
  pub processor : ℕ
  pub made : ℕ
  pub has_ended : Bool
  pub is_due : Bool
  pub seen : List Turn

abbrev pub unused : (processor : ℕ) → Seated
unused processor = record { processor = processor; made = 0; has_ended = false; is_due = false; seen = [] }

-- after a turn, with which the run is this
abbrev pub saw : Seated → List Turn → Seated
saw seat turns = record {
  processor = seat.processor;
  made = seat.made;
  has_ended = seat.has_ended;
  is_due = seat.is_due;
  seen = turns;
}

-- after a turn, which was work or wasn't
abbrev pub booked : Seated → (work : Bool) → Seated
booked seat work = record {
  processor = seat.processor;
  made = seat.made + (if work then 1 else 0);
  has_ended = seat.has_ended;
  is_due = seat.is_due;
  seen = seat.seen;
}

-- with what is found after a turn: the finish word, and whether a victim is due
abbrev pub noted : Seated → (finish : ℕ) → (due : Bool) → Seated
noted seat finish due = record {
  processor = seat.processor;
  made = seat.made;
  has_ended = if is_set finish then true else seat.has_ended;
  is_due = due;
  seen = seat.seen;
}

-- the units that are booked for the end of the run
abbrev pub units : (has_ended : Bool) → ℕ
units has_ended = if has_ended then 1 else 0

-- if a processor is done after a turn, before which it wasn't, and the turn was no hard fault, the run has ended
abbrev pub EndsWhereDone : Act → Told → (has_ended : Bool) → Type 0
EndsWhereDone act told has_ended = told.event ≢ None → told.next ≡ Done → act ≢ Hard → has_ended ≡ true

-- the turn that a processor makes after these, where it is asked for an act
abbrev pub turn_after : Situation → (most : ℕ) → (before : List Turn) → (processor : ℕ) → Act → Turn
turn_after first most before processor act = turn_done most (run_on first before) (spent_by first processor before) processor act

-- a processor was asked for an act after some turns: the turn that it made is put after them, and it was answered what is told of that turn
pub record IsTold (first : Situation) (most : ℕ) (before : List Turn) (processor : ℕ) (act : Act) (now : List Turn) (answer : Told) : Type 0 where
  pub turn : now ≡ before ++ turn_after first most before processor act ∷ []
  pub told : answer ≡ told_of first.shape first.code (run_on first before).state (turn_after first most before processor act)

-- a seat's processor was asked for an act after some turns, with which a run goes on from what the seat had seen. The run with the turn that it
-- made is what the seat has seen now. The turn is booked where it is work, and what the seat notes holds after it
pub record HasMade (first : Situation) (most : ℕ) (before : List Turn) (act : Act) (old new : Seated) (answer : Told) : Type 0 where
  pub goes_on : IsPrefix old.seen before
  pub told : IsTold first most before old.processor act new.seen answer
  pub run : IsRun first most new.seen (run_on first new.seen)
  pub seat : new ≡ noted (booked (saw old new.seen) answer.work) (finish_in (run_on first new.seen))
      (seeks_holder (stand_of (run_on first new.seen).state old.processor))

-- all seats have seen beginnings of one list
abbrev pub HaveSeen : List Seated → List Turn → Type 0
HaveSeen seats turns = All (λ seat. IsPrefix seat.seen turns) seats

-- some run came to this, and its turns and what all seats have seen are beginnings of one list
abbrev pub HasSeenRun : Situation → (most : ℕ) → List Seated → Situation → Type 0
HasSeenRun first most seats m = (turns : List Turn) × (IsRun first most turns m × ((all : List Turn) × (IsPrefix turns all × HaveSeen seats all)))

-- what seats have noted of the end holds: if the run had ended after a turn of one of them, the finish word isn't 0
abbrev pub EndsHold : List Seated → Situation → Type 0
EndsHold seats m = (number : ℕ) (seat : Seated) → slice_get seats number ≡ Some seat → seat.has_ended ≡ true → finish_in m ≢ 0

-- an opening: its code is one, and no processor knows anything
pub record IsOpening (first : Situation) : Type 0 where
  pub is_code : IsCode first.code
  pub lost : first.state ≡ opening first.state.words first.shape.processors

-- the least sizes are within the limits
abbrev pub small : IsWithinLimits 1 64 2 0
small = record {
  processors_least = omega arith;
  processors_most = omega arith;
  room_least = omega arith;
  pools_most = omega arith;
  slots_least = omega arith;
  slots_most = omega arith;
  arrays_most = omega arith;
}

-- a machine with one processor, no code and no words, for a type that stands for no lock yet
abbrev pub nothing : Situation
nothing = record {
  shape = record { processors = 1; room = 64; slots = 2; arrays = 0; takeover = ByPlaces; within = small };
  code = record { root = 0; arrays = []; procedures = []; capsules = [] };
  array_lengths = [];
  state = record { words = []; stand = [] };
  forks = 0;
  takes = 0;
  work = 0;
  turns = 0;
}
