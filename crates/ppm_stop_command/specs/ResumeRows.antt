-- What follows from each status of `resume`. What is said of programs is said of each source whose program left the state: a run of it came to
-- the saved words, whatever was stopped and resumed how often before.
use Rattle.std.specs.Prelude.{◌≡◌, ◌⊎◌, ℕ, ◌<◌, ◌≤◌, ◌+◌, ◌^◌, List, [], ◌∷◌, Some}
use Rattle.ppm_words.specs.declared.named_array.NamedArray.{NamedArray}
use Rattle.ppm_words.specs.declared.outcome.Outcome.TheVariants as outcome
use Rattle.ppm_words.specs.declared.trap.Trap.{Trap}
use Rattle.ppm_cells.specs.Finish.{finish_of}
use Rattle.ppm_cells.specs.declared.finish.Finish.TheVariants as finishes
use Rattle.ppm_ports.specs.Ports.{Gets}
use Rattle.ppm_ports.specs.Outside.{Outside, ports_of}
use Rattle.ppm_answers.specs.declared.answer.Answer.{Answer}
use Rattle.ppm_answers.specs.declared.answer.Answer.TheVariants as answers
use Rattle.ppm_answers.specs.declared.saved.SavedRefusal.{SavedRefusal}
use Rattle.ppm_answers.specs.declared.status.Status.{Status}
use Rattle.ppm_answers.specs.declared.status.Status.TheVariants as statuses
use Rattle.ppm_answers.specs.Texts.{arrays_text, trap_text, turns_text, room_text, broken_text, plan_text, saved_line}
use Rattle.ppm_answers.specs.Reading.{ReadHas}
use Rattle.ppm_answers.specs.Rows.{PortsSay, TextRows, IsOneOf, GoesWell}
use Rattle.ppm_choice.specs.Deeds.{work_made}
use Rattle.ppm_cli.specs.declared.resume.ResumeOptions.{ResumeOptions}
use Rattle.ppm_cli.specs.Words.{AreResumed}
use Rattle.ppm_plan.specs.Forms.{plan_form}
use Rattle.ppm_plan.specs.Refusals.{IsAccepted}
use Rattle.ppm_saved_reader.specs.Rules.{saved_limit}
use Rattle.ppm_step.specs.Laws.{IsFilledBehind}
use Rattle.ppm_outcomes.specs.Meant.{NeedsMoreRoom, NeedsMoreTurns, struck_in}
use Rattle.ppm_outcomes.specs.Strikes.{fault_count}
use Rattle.ppm_stop_command.specs.CodeResumeRows.{ResumeCodeRows}
use Rattle.ppm_outcomes.specs.Completeness.{IsEnough}
use Rattle.ppm_outcomes.specs.Legs.{worked_in_all, lost_in_all, NoneIsTakenTwiceInAll, EndsAsProgramInAll, IsAsProgramInAll}
use Rattle.ppm_outcomes.specs.ResumeCompleteness.{faults_with, lost_with}
use Rattle.ppm_outcomes.specs.Resumes.{SavedState, saved_finish, IsTextOf, ResumedHas, ResumeWants, TextHas, IsLeftBy, legs_with, IsTextLeftBy}
use Rattle.ppm_plan.specs.declared.plan_item.PlanItem.{PlanItem}

module _ (options : ResumeOptions) (plan : List ℕ) (o : Outside) where
  -- the answers of texts, with what the watchers were told
  abbrev pub Has : List ℕ → Answer → Type 0
  Has text answer = TextHas options plan o.told_before o.told_now text answer

  -- the text that was read has this answer
  abbrev pub HasRead : Answer → Type 0
  HasRead answer = ReadHas saved_limit Has o.source answer

  -- the run of a state
  abbrev pub Resumed : List PlanItem → SavedState → Answer → Type 0
  Resumed items z answer = ResumedHas options o.told_before o.told_now items z answer

  module _ {items : List PlanItem} {z : SavedState} {answer : Answer} (run : Resumed items z answer) where
    -- after it no right branch was forked or taken twice, over all of the run of each program that left the state
    abbrev pub IsOnce : Type 0
    IsOnce = (source : List ℕ) (left : IsLeftBy source z) → NoneIsTakenTwiceInAll left.start (legs_with left run.start.state.words) run.run.turns

    -- it ends as each such program does
    abbrev pub IsMeant : List NamedArray → Type 0
    IsMeant arrays = (source : List ℕ) (left : IsLeftBy source z)
        → EndsAsProgramInAll left.start (legs_with left run.start.state.words) run.run.turns left.tree (outcome.Ended arrays)

    abbrev pub IsMeantTrap : Trap → (line : ℕ) → Type 0
    IsMeantTrap trap line = (source : List ℕ) (left : IsLeftBy source z)
        → EndsAsProgramInAll left.start (legs_with left run.start.state.words) run.run.turns left.tree (outcome.Trapped trap line)

    -- its turns are fewer than 256 for each capsule that the code of each such program runs depth first, for each fault of all its legs that
    -- struck a row of work, and for each processor whenever its words came back; or that run has no end
    abbrev pub AreTooFew : Type 0
    AreTooFew = (source : List ℕ) (left : IsLeftBy source z)
        → NeedsMoreTurns left.tree (lost_in_all left.start (legs_with left run.start.state.words) run.run.turns) options.turns

  -- the run ends with arrays, those with which each program that left the state ends serially, and out got exactly their text
  pub record WritesArrays : Type 0 where
    pub arrays : List NamedArray
    pub read : HasRead (answers.Ended arrays)
    pub meant : IsMeant read.2.has.has arrays
    pub gets : Gets o.out (arrays_text arrays)

  -- the run ends in a trap, in which each such program ends serially, and out got exactly its text
  pub record WritesTrap : Type 0 where
    pub trap : Trap
    pub line : ℕ
    pub read : HasRead (answers.Trapped trap line)
    pub meant : IsMeantTrap read.2.has.has trap line
    pub gets : Gets o.out (trap_text trap line)

  -- the text that was read is that of no state, for this fault, and err got exactly its line
  abbrev pub WritesFault : Type 0
  WritesFault = (r : SavedRefusal) × HasRead (answers.SavedRefused r) × Gets o.err (saved_line r)

  -- it is that of a state, and the plan is refused for its processors, by a number; err got exactly the line with the number
  abbrev pub RefusesPlan : Type 0
  RefusesPlan = (number : ℕ) × HasRead (answers.PlanRefused number) × Gets o.err (plan_text number)

  -- A processor has made exactly as many work turns as it may make, in this run, and err got exactly the line that says so. So many are too
  -- few for each program that left the state, and no branch of it was taken twice. No more faults of this run struck a row of work than the plan
  -- has. So where the text is one that `stop` wrote, they are fewer than 256 for each capsule that the program's code runs depth first, if that run
  -- ends, each fault of the schedule then and of this plan, and each processor.
  pub record WritesOutOfTurns : Type 0 where
    pub processor : ℕ
    pub read : HasRead (answers.OutOfTurns processor)
    pub spent : let r = read.2.has.has in
        (processor < read.2.state.shape.processors) × (work_made r.start.shape r.start.code processor r.start.state r.run.turns ≡ options.turns)
    pub needs : AreTooFew read.2.has.has
    pub struck : struck_in read.2.has.has.start read.2.has.has.run.turns ≤ fault_count read.2.has.items
    pub stopped : (source : List ℕ) (faults : ℕ) (left : IsTextLeftBy source faults read.0)
        → NeedsMoreTurns left.by.tree (lost_with faults read.2.state.shape.processors read.2.has.items) options.turns
    pub once : IsOnce read.2.has.has
    pub gets : Gets o.err (turns_text processor)

  -- A turn of this run found the pool of a place full, or the saved words said so; and err got exactly the line that says so. Also these say it
  -- of a place, if a program left the state. Each such program takes more words than a pool has, or has no end; and no branch of it was taken
  -- twice.
  pub record WritesOutOfRoom : Type 0 where
    pub place : ℕ
    pub read : HasRead (answers.OutOfRoom place)
    pub full : let r = read.2.has.has in
        ((place < read.2.state.shape.processors) × IsFilledBehind r.start.shape r.start.code place r.start.state.words r.run.turns)
        ⊎ (finish_of (saved_finish read.2.state) ≡ Some (finishes.OutOfRoom place))
    pub there : (source : List ℕ) → IsLeftBy source read.2.state → place < read.2.state.shape.processors
    pub needs : (source : List ℕ) (left : IsLeftBy source read.2.state) → NeedsMoreRoom left.tree read.2.state.shape.room
    pub once : IsOnce read.2.has.has
    pub gets : Gets o.err (room_text place)

  -- That words are broken is said of a state that a program left only by a run from it, so its finish word stands for a finish; and only so
  -- late: the work turns that all legs made, with those of this run, are more than 2^34 + 2^28.
  abbrev pub ComesLate : List PlanItem → SavedState → (place : ℕ) → Type 0
  ComesLate items z place = (source : List ℕ) (left : IsLeftBy source z)
      → (run : Resumed items z (answers.Broken place)) × (2 ^ 34 + 2 ^ 28 < worked_in_all left.start (legs_with left run.start.state.words) run.run.turns)

  -- the words are broken, so late, and err got exactly the line that says so
  pub record WritesBroken : Type 0 where
    pub place : ℕ
    pub read : HasRead (answers.Broken place)
    pub late : ComesLate read.2.has.items read.2.state place
    pub gets : Gets o.err (broken_text place)

  -- what each status says; where memory is wanting, what watchers were told is nothing, or it is of one run
  abbrev pub ResumeSays : Status → Type 0
  ResumeSays statuses.Ended = WritesArrays
  ResumeSays statuses.Trapped = WritesTrap
  ResumeSays statuses.SavedRefused = WritesFault
  ResumeSays statuses.WordsRefused = RefusesPlan
  ResumeSays statuses.OutOfTurns = WritesOutOfTurns
  ResumeSays statuses.OutOfRoom = WritesOutOfRoom
  ResumeSays statuses.Broken = WritesBroken
  ResumeSays statuses.NoMemory = ResumeWants options plan o.told_before o.told_now o.source
  ResumeSays status = PortsSay (ports_of o) status

  -- Each run that an answer is of is, with the legs before, as each program that left its state. It is a law, in which no status occurs, so it holds
  -- also where a port failed at the text.
  abbrev pub AreAsPrograms : Type 0
  AreAsPrograms = (items : List PlanItem) (z : SavedState) (answer : Answer) (h : Resumed items z answer) (source : List ℕ) (left : IsLeftBy source z)
      → IsAsProgramInAll left.start (legs_with left h.start.state.words) h.run.turns left.tree

  -- completeness: with options in their ranges, a source's bytes that are known and are the text of a state that a program left, a plan that is
  -- accepted for its processors, and turns and room enough for that program, the run ends with arrays or in a trap, where the ports hold and
  -- memory is there
  abbrev pub Completes : Status → Type 0
  Completes status = AreResumed options → (all : List ℕ) → o.source.before ≡ Some all → (z : SavedState) → IsTextOf all z
      → (items : List PlanItem) → IsAccepted plan_form plan z.shape.processors items → (source : List ℕ) (left : IsLeftBy source z)
      → IsEnough left.tree (faults_with left items) options.turns z.shape.room → GoesWell (ports_of o) status
      → IsOneOf status (statuses.Ended ∷ statuses.Trapped ∷ [])

  -- The rows of `resume` with such options and such a plan: what each status says; and where all goes well, something is judged, and the
  -- answer that the text has is written. What is in `meant` is a law of all such runs. In `codes` stands what is said of each sound code that left
  -- the state.
  pub record ResumeRows (status : Status) : Type 0 where
    pub rows : TextRows saved_limit Has ResumeSays (ports_of o) status
    pub meant : AreAsPrograms
    pub completes : Completes status
    pub codes : ResumeCodeRows options plan o status
