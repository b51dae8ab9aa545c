-- The theorem on `run`, for whoever reads its contract: what holds of its answer, at each status.
use Rattle.std.specs.Prelude.{◌≡◌, ◌<◌, ◌≤◌, ◌⊎◌, ℕ, List, [], Some}
use Rattle.ppm_words.specs.declared.named_array.NamedArray.{NamedArray}
use Rattle.ppm_words.specs.declared.outcome.Outcome.{Outcome}
use Rattle.ppm_words.specs.declared.outcome.Outcome.TheVariants as outcome
use Rattle.ppm_words.specs.declared.trap.Trap.{Trap}
use Rattle.ppm_ports.specs.Ports.{Fails, Takes}
use Rattle.ppm_ports.specs.Outside.{Outside}
use Rattle.ppm_text.specs.Limits.{text_limit}
use Rattle.ppm_program.specs.Refusals.{IsRefusal}
use Rattle.ppm_plan.specs.Correct.{SomeAccepted}
use Rattle.ppm_plan.specs.Forms.{plan_form}
use Rattle.ppm_choice.specs.Deeds.{work_made}
use Rattle.ppm_step.specs.Laws.{IsFilledBehind}
use Rattle.ppm_answers.specs.declared.answer.Answer.{Answer}
use Rattle.ppm_answers.specs.declared.answer.Answer.TheVariants as answers
use Rattle.ppm_answers.specs.declared.refusal.Refusal.{Refusal}
use Rattle.ppm_answers.specs.declared.status.Status.{Status}
use Rattle.ppm_answers.specs.declared.status.Status.TheVariants as statuses
use Rattle.ppm_answers.specs.Delivery.{OutFails, ErrFails}
use Rattle.ppm_answers.specs.Reading.{Reads, ReadsSome, IsUnread}
use Rattle.ppm_answers.specs.Texts.{arrays_text, trap_text, refusal_text, plan_text, turns_text, room_text, err_text}
use Rattle.ppm_cli.specs.declared.run.RunOptions.{RunOptions}
use Rattle.ppm_loading.specs.Planned.{IsRefusedBy}
use Rattle.ppm_outcomes.specs.Meant.{NoneIsTakenTwice, EndsAsProgram, NeedsMoreRoom, NeedsMoreTurns, undone_in}
use Rattle.ppm_outcomes.specs.Runs.{RunMade, RunWants}
use Rattle.ppm_outcomes.specs.Strikes.{fault_count}

module _ (options : RunOptions) (watching : ℕ) (plan : List ℕ) (o : Outside) where
  -- A run of the program whose text was read, by a plan that was accepted, so it spares a processor, the keeper. The turns of all processors are in
  -- one order, from the machine with which a run of the program begins, its root with the keeper, and each processor obeys the plan and the limits
  -- in them. The words after them say this answer, and the finish word there has its cause in them. What each watcher was told is its processor's
  -- record of these turns, with event 7 where it parked; of a watcher that shows no list that says nothing, as `read` does of a source that shows no
  -- bytes.
  abbrev pub Made : Answer → Type 0
  Made answer = RunMade options watching plan o.told_before o.told_now o.source answer

  -- nobody was told anything
  abbrev pub IsUntold : Type 0
  IsUntold = o.told_now ≡ o.told_before

  -- the run ended with this outcome, which is the program's serial one; and each branch that was forked was taken exactly once
  pub record EndsSo (answer : Answer) (outcome : Outcome) : Type 0 where
    pub made : Made answer
    pub ends : EndsAsProgram made.ran.start made.ran.run.turns made.program outcome

  -- A processor has made exactly as many work turns as it may make. They are fewer than 256 for each capsule that the program's code runs depth
  -- first and each fault of the plan, or that run has no end; and of the faults those that undid work are enough for this. No branch was taken twice.
  pub record SpendsTurns (processor : ℕ) : Type 0 where
    pub made : Made (answers.OutOfTurns processor)
    pub there : processor < options.processors
    pub spent : work_made made.ran.start.shape made.ran.start.code processor made.ran.start.state made.ran.run.turns ≡ options.turns
    pub exceeds : NeedsMoreTurns made.program (fault_count made.items) options.turns
    pub needs : NeedsMoreTurns made.program (undone_in made.ran.start made.ran.run.turns) options.turns
    pub undone : undone_in made.ran.start made.ran.run.turns ≤ fault_count made.items
    pub once : NoneIsTakenTwice made.ran.start made.ran.run.turns

  -- A turn found the pool of a place full: it began the capsule that the header of the frame names, which asks for more words than are left. The
  -- program takes more words than a pool has, or has no end. No branch was taken twice.
  pub record FillsPool (place : ℕ) : Type 0 where
    pub made : Made (answers.OutOfRoom place)
    pub there : place < options.processors
    pub full : IsFilledBehind made.ran.start.shape made.ran.start.code place made.ran.start.state.words made.ran.run.turns
    pub needs : NeedsMoreRoom made.program options.room
    pub once : NoneIsTakenTwice made.ran.start made.ran.run.turns

  -- the text that was read is refused, and all bytes of the source are, where they are known; the plan is accepted; nobody was told anything
  pub record RefusesText (r : Refusal) : Type 0 where
    pub text : List ℕ
    pub read : Reads text_limit o.source text
    pub refused : IsRefusal text r
    pub whole : (all : List ℕ) → o.source.before ≡ Some all → IsRefusal all r
    pub accepted : SomeAccepted plan_form plan options.processors
    pub untold : IsUntold

  -- the plan is refused by a number; nothing was read, and nobody was told anything
  pub record RefusesPlan (number : ℕ) : Type 0 where
    pub refused : IsRefusedBy plan_form plan options.processors number
    pub unread : IsUnread o.source
    pub untold : IsUntold

  -- the source failed, and the plan is accepted; nobody was told anything
  pub record FailsToRead : Type 0 where
    pub fails : Fails o.source
    pub front : ReadsSome text_limit o.source
    pub accepted : SomeAccepted plan_form plan options.processors
    pub untold : IsUntold

  -- What holds of an answer, also where a port failed at its texts. Where memory is wanting, either nobody was told anything, or what watchers were
  -- told is of one run of this kind: of one that was given up, or of a whole one.
  abbrev pub HoldsOf : Answer → Type 0
  HoldsOf (answers.Ended arrays) = EndsSo (answers.Ended arrays) (outcome.Ended arrays)
  HoldsOf (answers.Trapped trap line) = EndsSo (answers.Trapped trap line) (outcome.Trapped trap line)
  HoldsOf (answers.SourceRefused r) = RefusesText r
  HoldsOf (answers.PlanRefused number) = RefusesPlan number
  HoldsOf (answers.OutOfTurns processor) = SpendsTurns processor
  HoldsOf (answers.OutOfRoom place) = FillsPool place
  HoldsOf answers.ReadFault = FailsToRead
  HoldsOf answers.NoMemory = RunWants options watching plan o.told_before o.told_now o.source
  HoldsOf answer = ⊥

  -- out got exactly this text, and err nothing; no write failed
  pub record OutTakes (text : List ℕ) : Type 0 where
    pub on_out : Takes o.out text
    pub on_err : Takes o.err []

  -- err got exactly this text, and out nothing; no write failed
  pub record ErrTakes (text : List ℕ) : Type 0 where
    pub on_out : Takes o.out []
    pub on_err : Takes o.err text

  -- Whatever the source, the number of processors, the order of turns and the plan: `run`, if it returns, writes the serial outcome of the source's
  -- program, its arrays or its first trap, or names a limit that the depth-first run exceeds. All else that it may do is to refuse the text or the
  -- plan, or to say that a port failed or that memory is wanting. Where out or err failed, all holds that is said of the answer to be written.
  abbrev pub Headline : Status → Type 0
  Headline statuses.Ended = (arrays : List NamedArray) × HoldsOf (answers.Ended arrays) × OutTakes (arrays_text arrays)
  Headline statuses.Trapped = (trap : Trap) × (line : ℕ) × HoldsOf (answers.Trapped trap line) × OutTakes (trap_text trap line)
  Headline statuses.SourceRefused = (r : Refusal) × HoldsOf (answers.SourceRefused r) × ErrTakes (refusal_text r)
  Headline statuses.WordsRefused = (number : ℕ) × HoldsOf (answers.PlanRefused number) × ErrTakes (plan_text number)
  Headline statuses.OutOfTurns = (processor : ℕ) × HoldsOf (answers.OutOfTurns processor) × ErrTakes (turns_text processor)
  Headline statuses.OutOfRoom = (place : ℕ) × HoldsOf (answers.OutOfRoom place) × ErrTakes (room_text place)
  Headline statuses.ReadFault = HoldsOf answers.ReadFault × ErrTakes (err_text answers.ReadFault)
  Headline statuses.WriteFault = (answer : Answer) × HoldsOf answer × (OutFails o.out o.err answer ⊎ ErrFails o.out o.err answer)
  Headline statuses.NoMemory = HoldsOf answers.NoMemory × ErrTakes (err_text answers.NoMemory)
  Headline status = ⊥
