-- The theorem on `run` of a case, for whoever reads its contract: what holds of its answer, at each status.
use Rattle.std.specs.Prelude.{◌≡◌, ◌<◌, ◌≤◌, ◌⊎◌, ℕ, List, [], Some}
use Rattle.ppm_words.specs.declared.named_array.NamedArray.{NamedArray}
use Rattle.ppm_words.specs.declared.outcome.Outcome.{Outcome}
use Rattle.ppm_words.specs.declared.outcome.Outcome.TheVariants as outcome
use Rattle.ppm_words.specs.declared.trap.Trap.{Trap}
use Rattle.ppm_ports.specs.Ports.{Fails}
use Rattle.ppm_ports.specs.Outside.{Outside}
use Rattle.ppm_case.specs.Rules.{case_limit}
use Rattle.ppm_depth.specs.Sound.{IsSound}
use Rattle.ppm_plan.specs.Correct.{SomeAccepted}
use Rattle.ppm_plan.specs.Forms.{plan_form}
use Rattle.ppm_choice.specs.Deeds.{work_made}
use Rattle.ppm_step.specs.Laws.{IsFilledBehind}
use Rattle.ppm_step.specs.Standings.{unknown_place}
use Rattle.ppm_answers.specs.declared.answer.Answer.{Answer}
use Rattle.ppm_answers.specs.declared.answer.Answer.TheVariants as answers
use Rattle.ppm_answers.specs.declared.case.InputRefusal.{InputRefusal}
use Rattle.ppm_answers.specs.declared.conflict.ListingRefusal.{ListingRefusal}
use Rattle.ppm_answers.specs.declared.status.Status.{Status}
use Rattle.ppm_answers.specs.declared.status.Status.TheVariants as statuses
use Rattle.ppm_answers.specs.Delivery.{OutFails, ErrFails}
use Rattle.ppm_answers.specs.Reading.{Reads, ReadsSome, IsUnread}
use Rattle.ppm_answers.specs.Texts.{arrays_text, trap_text, input_text, listing_text, plan_text, turns_text, room_text, broken_text, err_text}
use Rattle.ppm_cli.specs.declared.run.RunOptions.{RunOptions}
use Rattle.ppm_loading.specs.Cases.{RefusedHas}
use Rattle.ppm_loading.specs.Planned.{IsRefusedBy}
use Rattle.ppm_outcomes.specs.AsCode.{CodeNeedsMoreRoom, CodeNeedsMoreTurns, EndsAsCode}
use Rattle.ppm_driver.specs.CaseRuns.{RunCaseMade, RunCaseWants}
use Rattle.ppm_driver.specs.Headline.{OutTakes, ErrTakes}
use Rattle.ppm_outcomes.specs.Meant.{NoneIsTakenTwice, undone_in}
use Rattle.ppm_outcomes.specs.Strikes.{fault_count}

module _ (options : RunOptions) (watching : ℕ) (plan : List ℕ) (o : Outside) where
  -- A run of the case whose text was read, by a plan that was accepted, so it spares a processor, the keeper. The turns of all processors are in
  -- one order, from the machine with which a run of the code on the input begins, its root with the keeper, and each processor obeys the plan and
  -- the limits in them. The words after them say this answer, and the finish word there has its cause in them. What each watcher was told is its
  -- processor's record of these turns, with event 7 where it parked. All this holds of each case, sound or not.
  abbrev pub Made : Answer → Type 0
  Made answer = RunCaseMade options watching plan o.told_before o.told_now o.source answer

  -- the code of the run is sound with its input
  abbrev pub Sound : {answer : Answer} → Made answer → Type 0
  Sound made = IsSound made.code made.input

  -- nobody was told anything
  abbrev pub IsUntold : Type 0
  IsUntold = o.told_now ≡ o.told_before

  -- the run ended with this outcome; if the case is sound, it is that of its code, run depth first, and each branch that was forked was taken
  -- exactly once
  pub record EndsSo (answer : Answer) (outcome : Outcome) : Type 0 where
    pub made : Made answer
    pub ends : Sound made → EndsAsCode made.ran.start made.ran.run.turns made.code made.input outcome

  -- A processor has made exactly as many work turns as it may make. If the case is sound, they are fewer than 256 for each capsule that its code
  -- runs depth first and each fault of the plan, or that run has no end; and of the faults those that undid work are enough for this. No branch
  -- was taken twice then.
  pub record SpendsTurns (processor : ℕ) : Type 0 where
    pub made : Made (answers.OutOfTurns processor)
    pub there : processor < options.processors
    pub spent : work_made made.ran.start.shape made.ran.start.code processor made.ran.start.state made.ran.run.turns ≡ options.turns
    pub exceeds : Sound made → CodeNeedsMoreTurns made.code made.input (fault_count made.items) options.turns
    pub needs : Sound made → CodeNeedsMoreTurns made.code made.input (undone_in made.ran.start made.ran.run.turns) options.turns
    pub undone : undone_in made.ran.start made.ran.run.turns ≤ fault_count made.items
    pub once : Sound made → NoneIsTakenTwice made.ran.start made.ran.run.turns

  -- A turn found the pool of a place full: it began the capsule that the header of the frame names, which asks for more words than are left. If
  -- the case is sound, its code, run depth first, takes more words than a pool has, or has no end, and no branch was taken twice.
  pub record FillsPool (place : ℕ) : Type 0 where
    pub made : Made (answers.OutOfRoom place)
    pub there : place < options.processors
    pub full : IsFilledBehind made.ran.start.shape made.ran.start.code place made.ran.start.state.words made.ran.run.turns
    pub needs : Sound made → CodeNeedsMoreRoom made.code made.input options.room
    pub once : Sound made → NoneIsTakenTwice made.ran.start made.ran.run.turns

  -- the words say that they are broken at a place, or at one that isn't known; and the case is not sound
  pub record BreaksWords (place : ℕ) : Type 0 where
    pub made : Made (answers.Broken place)
    pub there : (place < options.processors) ⊎ (place ≡ unknown_place)
    pub unsound : ¬ Sound made

  -- the text that was read is of no case, for this fault, and all bytes of the source are, where they are known; the plan is accepted; nobody was
  -- told anything
  pub record RefusesCase (answer : Answer) : Type 0 where
    pub text : List ℕ
    pub read : Reads case_limit o.source text
    pub refused : RefusedHas text answer
    pub whole : (all : List ℕ) → o.source.before ≡ Some all → RefusedHas all answer
    pub accepted : SomeAccepted plan_form plan options.processors
    pub untold : IsUntold

  -- the plan is refused by a number; nothing was read, and nobody was told anything
  pub record RefusesPlan (number : ℕ) : Type 0 where
    pub refused : IsRefusedBy plan_form plan options.processors number
    pub unread : IsUnread o.source
    pub untold : IsUntold

  -- the source failed, and the plan is accepted; nobody was told anything
  pub record FailsToRead : Type 0 where
    pub fails : Fails o.source
    pub front : ReadsSome case_limit o.source
    pub accepted : SomeAccepted plan_form plan options.processors
    pub untold : IsUntold

  -- What holds of an answer, also where a port failed at its texts. Where memory is wanting, either nobody was told anything, or what watchers were
  -- told is of one run of this kind: of one that was given up, or of a whole one.
  abbrev pub HoldsOf : Answer → Type 0
  HoldsOf (answers.Ended arrays) = EndsSo (answers.Ended arrays) (outcome.Ended arrays)
  HoldsOf (answers.Trapped trap line) = EndsSo (answers.Trapped trap line) (outcome.Trapped trap line)
  HoldsOf (answers.InputRefused r) = RefusesCase (answers.InputRefused r)
  HoldsOf (answers.ListingRefused r) = RefusesCase (answers.ListingRefused r)
  HoldsOf (answers.PlanRefused number) = RefusesPlan number
  HoldsOf (answers.OutOfTurns processor) = SpendsTurns processor
  HoldsOf (answers.OutOfRoom place) = FillsPool place
  HoldsOf (answers.Broken place) = BreaksWords place
  HoldsOf answers.ReadFault = FailsToRead
  HoldsOf answers.NoMemory = RunCaseWants options watching plan o.told_before o.told_now o.source
  HoldsOf answer = ⊥

  -- why the text is of no case, with the line that err got: a fault of its arrays or of its root, or one of its listing
  abbrev pub RefusesInput : Type 0
  RefusesInput = (r : InputRefusal) × HoldsOf (answers.InputRefused r) × ErrTakes options watching plan o (input_text r)

  abbrev pub RefusesListing : Type 0
  RefusesListing = (r : ListingRefusal) × HoldsOf (answers.ListingRefused r) × ErrTakes options watching plan o (listing_text r)

  -- Whatever the source, the number of processors, the order of turns and the plan: `run`, if it returns, writes what the words say after one run of
  -- the machine with the case's code and input. If the case is sound, that is the outcome of the code, run depth first, its arrays or its first
  -- trap, or it names a limit that this run exceeds. All else that it may do is to refuse the text or the plan, or to say that a port failed or that
  -- memory is wanting. Where out or err failed, all holds that is said of the answer to be written.
  abbrev pub CaseHeadline : Status → Type 0
  CaseHeadline statuses.Ended =
      (arrays : List NamedArray) × HoldsOf (answers.Ended arrays) × OutTakes options watching plan o (arrays_text arrays)
  CaseHeadline statuses.Trapped =
      (trap : Trap) × (line : ℕ) × HoldsOf (answers.Trapped trap line) × OutTakes options watching plan o (trap_text trap line)
  CaseHeadline statuses.CodeRefused = RefusesInput ⊎ RefusesListing
  CaseHeadline statuses.WordsRefused = (number : ℕ) × HoldsOf (answers.PlanRefused number) × ErrTakes options watching plan o (plan_text number)
  CaseHeadline statuses.OutOfTurns =
      (processor : ℕ) × HoldsOf (answers.OutOfTurns processor) × ErrTakes options watching plan o (turns_text processor)
  CaseHeadline statuses.OutOfRoom = (place : ℕ) × HoldsOf (answers.OutOfRoom place) × ErrTakes options watching plan o (room_text place)
  CaseHeadline statuses.Broken = (place : ℕ) × HoldsOf (answers.Broken place) × ErrTakes options watching plan o (broken_text place)
  CaseHeadline statuses.ReadFault = HoldsOf answers.ReadFault × ErrTakes options watching plan o (err_text answers.ReadFault)
  CaseHeadline statuses.WriteFault = (answer : Answer) × HoldsOf answer × (OutFails o.out o.err answer ⊎ ErrFails o.out o.err answer)
  CaseHeadline statuses.NoMemory = HoldsOf answers.NoMemory × ErrTakes options watching plan o (err_text answers.NoMemory)
  CaseHeadline status = ⊥
