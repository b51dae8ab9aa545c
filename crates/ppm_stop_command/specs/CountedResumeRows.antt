-- What follows from each status of `resume` where its counts are told: what follows of `resume`, with the counts of that very run.
use Rattle.std.specs.Prelude.{◌≡◌, ◌⊎◌, ℕ, ◌<◌, ◌≤◌, ◌+◌, ◌^◌, List, [], ◌++◌, Some}
use Rattle.ppm_words.specs.declared.named_array.NamedArray.{NamedArray}
use Rattle.ppm_words.specs.declared.trap.Trap.{Trap}
use Rattle.ppm_cells.specs.Finish.{finish_of}
use Rattle.ppm_cells.specs.declared.finish.Finish.TheVariants as finishes
use Rattle.ppm_ports.specs.Ports.{Gets}
use Rattle.ppm_ports.specs.Outside.{Outside, Ports, outside}
use Rattle.ppm_answers.specs.declared.answer.Answer.{Answer}
use Rattle.ppm_answers.specs.declared.answer.Answer.TheVariants as answers
use Rattle.ppm_answers.specs.declared.ran.Ran.TheVariants as ran
use Rattle.ppm_answers.specs.declared.run_counts.RunCounts.{RunCounts}
use Rattle.ppm_answers.specs.declared.saved.SavedRefusal.{SavedRefusal}
use Rattle.ppm_answers.specs.declared.status.Status.{Status}
use Rattle.ppm_answers.specs.declared.status.Status.TheVariants as statuses
use Rattle.ppm_answers.specs.Texts.{arrays_text, trap_text, turns_text, room_text, broken_text, plan_text, run_counts_text, saved_line}
use Rattle.ppm_answers.specs.Reading.{ReadHas}
use Rattle.ppm_answers.specs.Rows.{PortsSay, TextRows, IsDone}
use Rattle.ppm_choice.specs.Deeds.{work_made}
use Rattle.ppm_cli.specs.declared.resume.ResumeOptions.{ResumeOptions}
use Rattle.ppm_saved_reader.specs.Rules.{saved_limit}
use Rattle.ppm_step.specs.Laws.{IsFilledBehind}
use Rattle.ppm_outcomes.specs.CountedResumes.{TextHas, CountedResumeMay}
use Rattle.ppm_outcomes.specs.Legs.{worked_in_all}
use Rattle.ppm_outcomes.specs.Meant.{NeedsMoreRoom, NeedsMoreTurns, struck_in}
use Rattle.ppm_outcomes.specs.ResumeCompleteness.{lost_with}
use Rattle.ppm_outcomes.specs.Resumes.{saved_finish, IsLeftBy, IsTextLeftBy, legs_with}
use Rattle.ppm_outcomes.specs.Strikes.{fault_count}
use Rattle.ppm_stop_command.specs.CodeResumeRows.{ResumeCodeRows}
use Rattle.ppm_stop_command.specs.ResumeRows.{AreAsPrograms, AreTooFew, Completes, IsMeant, IsMeantTrap, IsOnce}

-- these ports, where no watcher is told anything
abbrev pub unwatched : Ports → Outside
unwatched o = outside o.source o.out o.err [] []

module _ (options : ResumeOptions) (plan : List ℕ) (o : Ports) where
  -- the text that was read has this answer; with counts, they are those of the turns of the run that it is of
  abbrev pub HasRead : Answer → Type 0
  HasRead answer = ReadHas saved_limit (TextHas options plan) o.source answer

  -- the run ends with arrays, those with which each program that left the state ends serially, and out got exactly their text and the counts'
  pub record WritesArrays : Type 0 where
    pub arrays : List NamedArray
    pub counts : RunCounts
    pub read : HasRead (answers.RanWith (ran.Ended arrays) counts)
    pub meant : IsMeant options plan (unwatched o) read.2.has.has.has arrays
    pub gets : Gets o.out (arrays_text arrays ++ run_counts_text counts)

  -- the run ends in a trap, in which each such program ends serially, and out got exactly its text and the counts'
  pub record WritesTrap : Type 0 where
    pub trap : Trap
    pub line : ℕ
    pub counts : RunCounts
    pub read : HasRead (answers.RanWith (ran.Trapped trap line) counts)
    pub meant : IsMeantTrap options plan (unwatched o) read.2.has.has.has trap line
    pub gets : Gets o.out (trap_text trap line ++ run_counts_text counts)

  -- the text that was read is that of no state, for this fault, and err got exactly its line
  abbrev pub WritesFault : Type 0
  WritesFault = (r : SavedRefusal) × HasRead (answers.SavedRefused r) × Gets o.err (saved_line r)

  -- it is that of a state, and the plan is refused for its processors, by a number; err got exactly the line with the number
  abbrev pub RefusesPlan : Type 0
  RefusesPlan = (number : ℕ) × HasRead (answers.PlanRefused number) × Gets o.err (plan_text number)

  -- A processor has made exactly as many work turns as it may make, in this run, and err got exactly the line that says so, and the counts'. So many
  -- are too few for each program that left the state, and no branch of it was taken twice. No more faults of this run struck a row of work than the
  -- plan has.
  pub record WritesOutOfTurns : Type 0 where
    pub processor : ℕ
    pub counts : RunCounts
    pub read : HasRead (answers.RanWith (ran.OutOfTurns processor) counts)
    pub spent : let r = read.2.has.has.has in
        (processor < read.2.state.shape.processors) × (work_made r.start.shape r.start.code processor r.start.state r.run.turns ≡ options.turns)
    pub needs : AreTooFew options plan (unwatched o) read.2.has.has.has
    pub struck : struck_in read.2.has.has.has.start read.2.has.has.has.run.turns ≤ fault_count read.2.has.items
    pub stopped : (source : List ℕ) (faults : ℕ) (left : IsTextLeftBy source faults read.0)
        → NeedsMoreTurns left.by.tree (lost_with faults read.2.state.shape.processors read.2.has.items) options.turns
    pub once : IsOnce options plan (unwatched o) read.2.has.has.has
    pub gets : Gets o.err (turns_text processor ++ run_counts_text counts)

  -- A turn of this run found the pool of a place full, or the saved words said so; and err got exactly the line that says so, and the counts'. Each
  -- program that left the state takes more words than a pool has, or has no end; and no branch of it was taken twice.
  pub record WritesOutOfRoom : Type 0 where
    pub place : ℕ
    pub counts : RunCounts
    pub read : HasRead (answers.RanWith (ran.OutOfRoom place) counts)
    pub full : let r = read.2.has.has.has in
        ((place < read.2.state.shape.processors) × IsFilledBehind r.start.shape r.start.code place r.start.state.words r.run.turns)
        ⊎ (finish_of (saved_finish read.2.state) ≡ Some (finishes.OutOfRoom place))
    pub there : (source : List ℕ) → IsLeftBy source read.2.state → place < read.2.state.shape.processors
    pub needs : (source : List ℕ) (left : IsLeftBy source read.2.state) → NeedsMoreRoom left.tree read.2.state.shape.room
    pub once : IsOnce options plan (unwatched o) read.2.has.has.has
    pub gets : Gets o.err (room_text place ++ run_counts_text counts)

  -- The run says that words are broken at a place, and err got exactly the line that says so, and the counts'. Of a state that a program left it says
  -- so only after more than 2^34 + 2^28 work turns of all legs, with those of this run.
  pub record WritesBroken : Type 0 where
    pub place : ℕ
    pub counts : RunCounts
    pub read : HasRead (answers.RanWith (ran.Broken place) counts)
    pub late : (source : List ℕ) (left : IsLeftBy source read.2.state) → let r = read.2.has.has.has in
        2 ^ 34 + 2 ^ 28 < worked_in_all left.start (legs_with left r.start.state.words) r.run.turns
    pub gets : Gets o.err (broken_text place ++ run_counts_text counts)

  -- The saved finish word stands for nothing, so nothing was run and nothing counted, and err got exactly the line that words are broken; no program
  -- left such a state.
  pub record WritesUnknown : Type 0 where
    pub place : ℕ
    pub read : HasRead (answers.Broken place)
    pub by_none : (source : List ℕ) → ¬ IsLeftBy source read.2.state
    pub gets : Gets o.err (broken_text place)

  -- what each status says; the others never come
  abbrev pub CountedResumeSays : Status → Type 0
  CountedResumeSays statuses.Ended = WritesArrays
  CountedResumeSays statuses.Trapped = WritesTrap
  CountedResumeSays statuses.SavedRefused = WritesFault
  CountedResumeSays statuses.WordsRefused = RefusesPlan
  CountedResumeSays statuses.OutOfTurns = WritesOutOfTurns
  CountedResumeSays statuses.OutOfRoom = WritesOutOfRoom
  CountedResumeSays statuses.Broken = WritesBroken ⊎ WritesUnknown
  CountedResumeSays status = PortsSay o status

  -- The rows of such a `resume` with such options and such a plan. What is in `meant` is a law of all such runs. In `codes` stands what is said of each
  -- sound code that left the state.
  pub record CountedResumeRows (status : Status) : Type 0 where
    pub rows : TextRows saved_limit (TextHas options plan) CountedResumeSays o status
    pub meant : AreAsPrograms options plan (unwatched o)
    pub completes : Completes options plan (unwatched o) status
    pub codes : ResumeCodeRows options plan (unwatched o) status

-- such a `resume` is done: an answer that may come was delivered, and its rows hold
abbrev pub IsCountedResume : ResumeOptions → (plan : List ℕ) → Ports → Status → Type 0
IsCountedResume options plan = IsDone (CountedResumeMay options plan) (CountedResumeRows options plan)
