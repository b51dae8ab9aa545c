-- What follows from each status of `run` where its counts are told.
use Rattle.std.specs.Prelude.{◌≡◌, ℕ, List, [], ◌++◌}
use Rattle.ppm_words.specs.declared.named_array.NamedArray.{NamedArray}
use Rattle.ppm_words.specs.declared.outcome.Outcome.TheVariants as outcome
use Rattle.ppm_words.specs.declared.trap.Trap.{Trap}
use Rattle.ppm_ports.specs.Ports.{Gets}
use Rattle.ppm_ports.specs.Outside.{Outside, Ports, outside}
use Rattle.ppm_text.specs.Limits.{text_limit}
use Rattle.ppm_plan.specs.Forms.{plan_form}
use Rattle.ppm_answers.specs.declared.answer.Answer.{Answer}
use Rattle.ppm_answers.specs.declared.answer.Answer.TheVariants as answers
use Rattle.ppm_answers.specs.declared.run_counts.RunCounts.{RunCounts}
use Rattle.ppm_answers.specs.declared.status.Status.{Status}
use Rattle.ppm_answers.specs.declared.status.Status.TheVariants as statuses
use Rattle.ppm_answers.specs.Reading.{IsUnread}
use Rattle.ppm_answers.specs.Rows.{PortsSay, PlannedRows, IsShown, IsDone}
use Rattle.ppm_answers.specs.Texts.{arrays_text, trap_text, turns_text, room_text, run_counts_text}
use Rattle.ppm_cli.specs.declared.run.RunOptions.{RunOptions}
use Rattle.ppm_loading.specs.MachineRows as machine
use Rattle.ppm_loading.specs.Planned.{IsRefusedBy, HasByItems}
use Rattle.ppm_outcomes.specs.CountedRuns.{TextHas, CountedRunHas, CountedRunMay}
use Rattle.ppm_outcomes.specs.RunCounts.{AreOfRun}
use Rattle.ppm_outcomes.specs.Strikes.{fault_count}
use Rattle.ppm_driver.specs.Headline.{Made, EndsSo, SpendsTurns, FillsPool}
use Rattle.ppm_driver.specs.RunRows.{AreAsPrograms, Completes}

-- these ports, where no watcher is told anything
abbrev pub unwatched : Ports → Outside
unwatched o = outside o.source o.out o.err [] []

module _ (options : RunOptions) (plan : List ℕ) (o : Ports) where
  -- the counts are those of the turns of this run, of the words after it, and of the turns for which its plan has faults
  abbrev pub AreCounted : {answer : Answer} → Made options 0 plan (unwatched o) answer → RunCounts → Type 0
  AreCounted made counts = AreOfRun (fault_count made.items) made.ran.start made.ran.run.turns counts

  -- the run ended with arrays, those with which the program ends serially, and out got exactly their text and that of the counts of this run
  pub record WritesArrays : Type 0 where
    pub arrays : List NamedArray
    pub counts : RunCounts
    pub ends : EndsSo options 0 plan (unwatched o) (answers.Ended arrays) (outcome.Ended arrays)
    pub counted : AreCounted ends.made counts
    pub gets : Gets o.out (arrays_text arrays ++ run_counts_text counts)

  -- the run ended in a trap, in which the program ends serially, and out got exactly its text and that of the counts of this run
  pub record WritesTrap : Type 0 where
    pub trap : Trap
    pub line : ℕ
    pub counts : RunCounts
    pub ends : EndsSo options 0 plan (unwatched o) (answers.Trapped trap line) (outcome.Trapped trap line)
    pub counted : AreCounted ends.made counts
    pub gets : Gets o.out (trap_text trap line ++ run_counts_text counts)

  -- a processor has made as many work turns as it may make, and err got exactly the line that says so, and that of the counts of this run
  pub record WritesOutOfTurns : Type 0 where
    pub processor : ℕ
    pub counts : RunCounts
    pub spends : SpendsTurns options 0 plan (unwatched o) processor
    pub counted : AreCounted spends.made counts
    pub gets : Gets o.err (turns_text processor ++ run_counts_text counts)

  -- a turn found the pool of a place full, and err got exactly the line that says so, and that of the counts of this run
  pub record WritesOutOfRoom : Type 0 where
    pub place : ℕ
    pub counts : RunCounts
    pub fills : FillsPool options 0 plan (unwatched o) place
    pub counted : AreCounted fills.made counts
    pub gets : Gets o.err (room_text place ++ run_counts_text counts)

  -- what each status says; the others never come, broken words among them
  abbrev pub CountedRunSays : Status → Type 0
  CountedRunSays statuses.Ended = WritesArrays
  CountedRunSays statuses.Trapped = WritesTrap
  CountedRunSays statuses.SourceRefused = machine.WritesRefusal plan_form plan options.processors (TextHas options) o
  CountedRunSays statuses.WordsRefused = machine.RefusesPlan plan_form plan options.processors o × IsUnread o.source
  CountedRunSays statuses.OutOfTurns = WritesOutOfTurns
  CountedRunSays statuses.OutOfRoom = WritesOutOfRoom
  CountedRunSays status = PortsSay o status

  -- The rows of such a `run` with such options, in their ranges, and such a plan. Where there is one processor, the answer that a text has is written,
  -- whichever it is. What is in `meant` is a law of all runs.
  pub record CountedRunRows (status : Status) : Type 0 where
    pub rows : PlannedRows (IsRefusedBy plan_form plan options.processors)
        (HasByItems plan_form plan options.processors (TextHas options)) text_limit CountedRunSays o status
    pub shown : options.processors ≡ 1 → IsShown (CountedRunHas options plan) o status
    pub meant : AreAsPrograms options 0 plan (unwatched o)
    pub completes : Completes options 0 plan (unwatched o) status

-- such a run is done: an answer that may come was delivered, and its rows hold
abbrev pub IsCountedRun : RunOptions → (plan : List ℕ) → Ports → Status → Type 0
IsCountedRun options plan = IsDone (CountedRunMay options plan) (CountedRunRows options plan)
