-- Laws of the run of a schedule.
use Rattle.std.specs.Prelude.{◌≡◌, ◌≢◌, ℕ, ◌==◌, ◌<◌, ◌≤◌, if◌then◌else◌, List, [], ◌∷◌, ◌++◌, length}
use Rattle.std.specs.List.{All}
use Rattle.ppm_cells.specs.Memory.{read, AreWordsOf}
use Rattle.ppm_cells.specs.declared.cell.Cell.TheVariants.{FinishWord}
use Rattle.ppm_cells.specs.declared.shape.Shape.{Shape}
use Rattle.ppm_code.specs.declared.code.CodeParts.{CodeParts}
use Rattle.ppm_plan.specs.declared.schedule_item.ScheduleItem.{ScheduleItem}
use Rattle.ppm_plan.specs.declared.schedule_item.ScheduledAct.{ScheduledAct}
use Rattle.ppm_plan.specs.declared.schedule_item.ScheduledAct.TheVariants as scheduled
use Rattle.ppm_plan.specs.Forms.{schedule_form}
use Rattle.ppm_plan.specs.Refusals.{IsKeeper}
use Rattle.ppm_plan.specs.Schedules.{IsItemAmong}
use Rattle.ppm_step.specs.declared.turn.Act.TheVariants.{Step}
use Rattle.ppm_step.specs.declared.turn.Turn.{Turn}
use Rattle.ppm_step.specs.Standings.{IsDone}
use Rattle.ppm_step.specs.State.{State, stand_of, after, along, opening, seeks_holder, draws}
use Rattle.ppm_step.specs.Laws.{finish_at, reached, IsProposedWord}
use Rattle.ppm_choice.specs.Deeds.{act_of_fault}
use Rattle.ppm_choice.specs.Course.{Due, Listed, InRound, act_of, processor_of, victim_of, turns_of}
use Rattle.ppm_choice.specs.Schedules.{dues_of, beginning, schedule_turns}

-- why nothing is left to do after a run of so many turns
pub data IsOver (s : Shape) (state : State) (made turns : ℕ) : Type 0 where
  -- as many turns were made as may be
  AllMade : made ≡ turns → IsOver s state made turns
  -- the finish word says how the run ended
  Finished : read s state.words FinishWord ≢ 0 → IsOver s state made turns
  -- no processor is left
  NoneLeft : ((processor : ℕ) → processor < s.processors → stand_of state processor ≡ IsDone) → IsOver s state made turns

-- what is due after the list is shut once the finish word isn't 0
abbrev pub IsShut : Shape → State → Due → Type 0
IsShut s state (Listed act) = ⊥
IsShut s state (InRound processor) = read s state.words FinishWord ≢ 0

-- the loads of holder words that a processor makes as it seeks work, each told as the processor
abbrev pub load_of : (processor : ℕ) → State → Turn → List ℕ
load_of processor state turn =
    if turn.processor == processor then (if draws turn.act (stand_of state turn.processor) then processor ∷ [] else []) else []

module _ (s : Shape) (code : CodeParts) where
  -- how many of them there are in a run
  abbrev pub loads_made : (processor : ℕ) → State → List Turn → ℕ
  loads_made processor state turns = length (along s code (load_of processor) state turns)

  -- the turn that an act is after these turns; what is counted for its victim is what its processor made in them
  abbrev pub turn_behind : State → List Turn → ScheduledAct → Turn
  turn_behind state first (scheduled.Step processor stated) = record {
    processor = processor;
    act = Step (
        victim_of s.processors processor (loads_made processor state first) stated
        (seeks_holder (stand_of (after s code state first) processor))
        );
  }
  turn_behind state first (scheduled.Fails processor fault) = record { processor = processor; act = act_of_fault fault }

  -- what is due of a schedule, up to this turn: the acts in front of one came to the turns in front of it, and it is that act's
  pub record IsDue (state : State) (items : List ScheduleItem) (turns : ℕ) (first : List Turn) (turn : Turn) : Type 0 where
    pub before : List Due
    pub due : Due
    pub rest : List Due
    pub dues : dues_of s.processors items turns ≡ before ++ (due ∷ rest)
    pub turns_before : turns_of s code (beginning state turns) before ≡ first
    pub turn_is : turn ≡ turn_behind state first (act_of due)

  -- why what is due after these turns is left out: all turns were made, its processor is done, or it is shut
  pub data IsLeftOut (state : State) (turns : ℕ) (first : List Turn) (due : Due) : Type 0 where
    NoTurnLeft : length first ≡ turns → IsLeftOut state turns first due
    OfDone : stand_of (after s code state first) (processor_of (act_of due)) ≡ IsDone → IsLeftOut state turns first due
    Shut : IsShut s (after s code state first) due → IsLeftOut state turns first due

  -- what is due comes to its turn after these turns, exactly where it isn't left out
  pub record ComesNext (state : State) (turns : ℕ) (before : List Due) (first : List Turn) (due : Due) : Type 0 where
    pub made : (IsLeftOut state turns first due → ⊥)
        → turns_of s code (beginning state turns) (before ++ (due ∷ [])) ≡ first ++ (turn_behind state first (act_of due) ∷ [])
    pub left_out : IsLeftOut state turns first due → turns_of s code (beginning state turns) (before ++ (due ∷ [])) ≡ first

  -- no more turns are made than may be
  abbrev pub MakesNoMore : Type 0
  MakesNoMore = (state : State) (items : List ScheduleItem) (turns : ℕ) → length (schedule_turns s code state items turns) ≤ turns

  -- and no fewer where one can be: a run goes on until all are made, the finish word isn't 0 or all processors are done
  abbrev pub GoesOn : Type 0
  GoesOn = (state : State) (items : List ScheduleItem) (turns : ℕ)
      → IsOver s (after s code state (schedule_turns s code state items turns)) (length (schedule_turns s code state items turns)) turns

  -- no turn is of a processor that is done where it is made
  abbrev pub SkipsDone : Type 0
  SkipsDone = (state : State) (items : List ScheduleItem) (turns : ℕ) (first more : List Turn) (turn : Turn)
      → schedule_turns s code state items turns ≡ first ++ (turn ∷ more) → stand_of (after s code state first) turn.processor ≢ IsDone

  -- the turns are those of the acts that are due, in their order, each with the victim that the rule names for it
  abbrev pub KeepsOrder : Type 0
  KeepsOrder = (state : State) (items : List ScheduleItem) (turns : ℕ) (first more : List Turn) (turn : Turn)
      → All (IsItemAmong s.processors) items
      → schedule_turns s code state items turns ≡ first ++ (turn ∷ more) → IsDue state items turns first turn

  -- and of all that is due nothing else is left out
  abbrev pub LeavesOutNoMore : Type 0
  LeavesOutNoMore = (state : State) (items : List ScheduleItem) (turns : ℕ) (before rest : List Due) (due : Due)
      → All (IsItemAmong s.processors) items
      → dues_of s.processors items turns ≡ before ++ (due ∷ rest)
      → ComesNext state turns before (turns_of s code (beginning state turns) before) due

  -- the turns of a schedule's run from these words, and the finish word after them
  abbrev pub turns_from : (words : List ℕ) → List ScheduleItem → (turns : ℕ) → List Turn
  turns_from words items turns = schedule_turns s code (opening words s.processors) items turns

  abbrev pub finish_from : (words : List ℕ) → List ScheduleItem → (turns : ℕ) → ℕ
  finish_from words items turns = finish_at s (reached s code words (turns_from words items turns))

  -- from the words of an image a schedule that spares a keeper comes to an end, or is unfinished after exactly as many turns as may be made
  abbrev pub UnfinishedIsExact : Type 0
  UnfinishedIsExact = (words : List ℕ) (items : List ScheduleItem) (keeper turns : ℕ)
      → AreWordsOf s words → IsKeeper schedule_form items keeper → keeper < s.processors
      → finish_from words items turns ≡ 0 → length (turns_from words items turns) ≡ turns

  -- and where these words say nothing yet, the finish word of a run that has ended stands for what steps propose: no processor quits
  abbrev pub NoneQuits : Type 0
  NoneQuits = (words : List ℕ) (items : List ScheduleItem) (turns : ℕ) → read s words FinishWord ≡ 0
      → finish_from words items turns ≢ 0 → IsProposedWord s.processors (finish_from words items turns)
