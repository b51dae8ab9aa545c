-- What follows from each status of `sweep`.
use Rattle.std.specs.Prelude.{◌≡◌, ℕ, List}
use Rattle.ppm_words.specs.declared.named_array.NamedArray.{NamedArray}
use Rattle.ppm_ports.specs.Ports.{Gets}
use Rattle.ppm_ports.specs.Outside.{Ports}
use Rattle.ppm_text.specs.Limits.{text_limit}
use Rattle.ppm_code.specs.declared.code.CodeParts.{CodeParts}
use Rattle.ppm_plan.specs.declared.schedule_item.ScheduleItem.{ScheduleItem}
use Rattle.ppm_plan.specs.Forms.{schedule_form}
use Rattle.ppm_plan.specs.Refusals.{IsAccepted}
use Rattle.ppm_tree.specs.Tree.{ProgramTree}
use Rattle.ppm_tree.specs.Program.{initial_arrays}
use Rattle.ppm_cut_code.specs.Routines.{code_of}
use Rattle.ppm_program.specs.Programs.{HasProgram}
use Rattle.ppm_answers.specs.declared.answer.Answer.{Answer}
use Rattle.ppm_answers.specs.declared.answer.Answer.TheVariants as answers
use Rattle.ppm_answers.specs.declared.status.Status.{Status}
use Rattle.ppm_answers.specs.declared.status.Status.TheVariants as statuses
use Rattle.ppm_answers.specs.declared.sweep.Came.{Came}
use Rattle.ppm_answers.specs.declared.sweep.Came.TheVariants as came
use Rattle.ppm_answers.specs.declared.sweep.Difference.{Difference}
use Rattle.ppm_answers.specs.declared.sweep.Sweep.{Sweep}
use Rattle.ppm_answers.specs.Texts.{difference_text, not_within_capsules_text, sweep_text}
use Rattle.ppm_answers.specs.Reading.{IsUnread}
use Rattle.ppm_answers.specs.Rows.{PortsSay, PlannedRows, IsShown, IsDone}
use Rattle.ppm_cli.specs.declared.sweep.SweepOptions.{SweepOptions}
use Rattle.ppm_cli.specs.Words.{AreSwept}
use Rattle.ppm_loading.specs.MachineRows as machine
use Rattle.ppm_loading.specs.Planned.{IsRefusedBy, HasByItems}
use Rattle.ppm_outcomes.specs.AsCode.{MayRun, CodeNeedsMoreRoom}
use Rattle.ppm_outcomes.specs.Meant.{HasOutcome}
use Rattle.ppm_sweep_command.specs.Sweeps.{CodeHas, SweepHas, SweepMay, TextHas}

-- A run came to no end: all its acts were made, or a pool was full, and the code, run depth first, takes more words than a pool has.
abbrev pub IsCutShort : SweepOptions → CodeParts → List NamedArray → Came → Type 0
IsCutShort options code input (came.Unfinished acts) = acts ≡ options.turns
IsCutShort options code input (came.OutOfRoom place) = CodeNeedsMoreRoom code input options.room
IsCutShort options code input c = ⊥

-- with options in their ranges and a schedule that is accepted, a difference that is told of a sound code is of a run that came to no end
abbrev pub SweepsAreAsCode : Type 0
SweepsAreAsCode = (options : SweepOptions) → AreSwept options → (schedule : List ℕ) (items : List ScheduleItem)
    → IsAccepted schedule_form schedule options.processors items
    → (code : CodeParts) (input : List NamedArray) → MayRun code input
    → (d : Difference) → CodeHas options items code input (answers.Differs d) → IsCutShort options code input d.came

module _ (options : SweepOptions) (schedule : List ℕ) (o : Ports) where
  -- the text that was read has this answer, with these options and this schedule
  abbrev pub HasRead : Answer → Type 0
  HasRead answer = machine.HasRead schedule_form schedule options.processors (TextHas options) o answer

  -- all runs come to the outcome of the program, and out got exactly the line with their counts
  pub record WritesCounts : Type 0 where
    pub counts : Sweep
    pub read : HasRead (answers.Swept counts)
    pub meant : HasOutcome read.2.has.0 read.2.has.2.run.outcome
    pub gets : Gets o.out (sweep_text counts)

  -- a run doesn't, since it came to no end, and err got exactly its schedule, its takeover and what it came to
  pub record WritesDifference : Type 0 where
    pub difference : Difference
    pub read : HasRead (answers.Differs difference)
    pub cut : let t = read.2.has.0 in IsCutShort options (code_of t) (initial_arrays t) difference.came
    pub gets : Gets o.err (difference_text difference)

  -- the code of the program takes more capsules, run depth first, and err got exactly the line that says so
  abbrev pub WritesNotWithin : Type 0
  WritesNotWithin = HasRead (answers.NotWithinCapsules options.capsules) × Gets o.err (not_within_capsules_text options.capsules)

  -- what each status says; the others never come
  abbrev pub SweepSays : Status → Type 0
  SweepSays statuses.Ended = WritesCounts
  SweepSays statuses.SourceRefused = machine.WritesRefusal schedule_form schedule options.processors (TextHas options) o
  SweepSays statuses.WordsRefused = machine.RefusesPlan schedule_form schedule options.processors o × IsUnread o.source
  SweepSays statuses.NotWithin = WritesNotWithin
  SweepSays statuses.Differs = WritesDifference
  SweepSays status = PortsSay o status

  -- Each difference that may be told of a program is of a run that came to no end. It is a law, in which no status occurs, so it holds also where a
  -- port failed at the text.
  abbrev pub AreAsPrograms : Type 0
  AreAsPrograms = (items : List ScheduleItem) → IsAccepted schedule_form schedule options.processors items
      → (text : List ℕ) (t : ProgramTree) → HasProgram text t → (d : Difference)
      → CodeHas options items (code_of t) (initial_arrays t) (answers.Differs d) → IsCutShort options (code_of t) (initial_arrays t) d.came

  -- The rows of `sweep` with such options, in their ranges, and such a schedule. The answer that a text has is written, whichever it is.
  pub record SweepRows (status : Status) : Type 0 where
    pub rows : PlannedRows (IsRefusedBy schedule_form schedule options.processors)
        (HasByItems schedule_form schedule options.processors (TextHas options)) text_limit SweepSays o status
    pub shown : IsShown (SweepHas options schedule) o status
    pub meant : AreAsPrograms

-- a sweep with such options and such a schedule is done: an answer that may come was delivered, and its rows hold
abbrev pub IsSwept : SweepOptions → (schedule : List ℕ) → Ports → Status → Type 0
IsSwept options schedule = IsDone (SweepMay options schedule) (SweepRows options schedule)
