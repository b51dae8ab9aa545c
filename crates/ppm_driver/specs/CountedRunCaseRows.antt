-- What follows from each status of `run` of a case where its counts are told.
use Rattle.std.specs.Prelude.{◌≡◌, ℕ, List, ◌++◌}
use Rattle.ppm_words.specs.declared.named_array.NamedArray.{NamedArray}
use Rattle.ppm_words.specs.declared.outcome.Outcome.TheVariants as outcome
use Rattle.ppm_words.specs.declared.trap.Trap.{Trap}
use Rattle.ppm_ports.specs.Ports.{Gets}
use Rattle.ppm_ports.specs.Outside.{Ports}
use Rattle.ppm_case.specs.Rules.{case_limit}
use Rattle.ppm_plan.specs.Forms.{plan_form}
use Rattle.ppm_answers.specs.declared.answer.Answer.{Answer}
use Rattle.ppm_answers.specs.declared.answer.Answer.TheVariants as answers
use Rattle.ppm_answers.specs.declared.run_counts.RunCounts.{RunCounts}
use Rattle.ppm_answers.specs.declared.status.Status.{Status}
use Rattle.ppm_answers.specs.declared.status.Status.TheVariants as statuses
use Rattle.ppm_answers.specs.Reading.{IsUnread, ReadHas}
use Rattle.ppm_answers.specs.Rows.{PortsSay, PlannedRows, IsShown, IsDone}
use Rattle.ppm_answers.specs.Texts.{arrays_text, trap_text, turns_text, room_text, broken_text, run_counts_text}
use Rattle.ppm_cli.specs.declared.run.RunOptions.{RunOptions}
use Rattle.ppm_loading.specs.MachineRows as machine
use Rattle.ppm_loading.specs.Planned.{IsRefusedBy, HasByItems}
use Rattle.ppm_orders.specs.CaseRefusals.{RefusesCase}
use Rattle.ppm_outcomes.specs.RunCounts.{AreOfRun}
use Rattle.ppm_outcomes.specs.Strikes.{fault_count}
use Rattle.ppm_driver.specs.CaseHeadline.{Made, EndsSo, SpendsTurns, FillsPool, BreaksWords}
use Rattle.ppm_driver.specs.CaseRows.{AreAsCode, Completes}
use Rattle.ppm_driver.specs.CountedCaseRuns.{TextHas, CountedRunCaseHas, CountedRunCaseMay}
use Rattle.ppm_driver.specs.CountedRunRows.{unwatched}

module _ (options : RunOptions) (plan : List ℕ) (o : Ports) where
  -- the text that was read has this answer, with these options and this plan
  abbrev pub HasRead : Answer → Type 0
  HasRead answer = ReadHas case_limit (HasByItems plan_form plan options.processors (TextHas options)) o.source answer

  -- the counts are those of the turns of this run, of the words after it, and of the turns for which its plan has faults
  abbrev pub AreCounted : {answer : Answer} → Made options 0 plan (unwatched o) answer → RunCounts → Type 0
  AreCounted made counts = AreOfRun (fault_count made.items) made.ran.start made.ran.run.turns counts

  -- the run ended with these arrays; if the case is sound, they are those of its code, run depth first; and out got exactly their text and that of
  -- the counts of this run
  pub record WritesArrays : Type 0 where
    pub arrays : List NamedArray
    pub counts : RunCounts
    pub ends : EndsSo options 0 plan (unwatched o) (answers.Ended arrays) (outcome.Ended arrays)
    pub counted : AreCounted ends.made counts
    pub gets : Gets o.out (arrays_text arrays ++ run_counts_text counts)

  -- the run ended in this trap; if the case is sound, it is that of its code, run depth first; and out got exactly its text and that of the counts
  pub record WritesTrap : Type 0 where
    pub trap : Trap
    pub line : ℕ
    pub counts : RunCounts
    pub ends : EndsSo options 0 plan (unwatched o) (answers.Trapped trap line) (outcome.Trapped trap line)
    pub counted : AreCounted ends.made counts
    pub gets : Gets o.out (trap_text trap line ++ run_counts_text counts)

  -- a processor has made as many work turns as it may make, and err got exactly the line that says so, and that of the counts of this run
  pub record WritesOutOfTurns : Type 0 where
    pub processor : ℕ
    pub counts : RunCounts
    pub spends : SpendsTurns options 0 plan (unwatched o) processor
    pub counted : AreCounted spends.made counts
    pub gets : Gets o.err (turns_text processor ++ run_counts_text counts)

  -- a turn found the pool of a place full, and err got exactly the line that says so, and that of the counts of this run
  pub record WritesOutOfRoom : Type 0 where
    pub place : ℕ
    pub counts : RunCounts
    pub fills : FillsPool options 0 plan (unwatched o) place
    pub counted : AreCounted fills.made counts
    pub gets : Gets o.err (room_text place ++ run_counts_text counts)

  -- the words are broken at a place, or at one that isn't known, and the case is not sound; err got exactly the line that says so, and that of the
  -- counts of this run
  pub record WritesBroken : Type 0 where
    pub place : ℕ
    pub counts : RunCounts
    pub breaks : BreaksWords options 0 plan (unwatched o) place
    pub counted : AreCounted breaks.made counts
    pub gets : Gets o.err (broken_text place ++ run_counts_text counts)

  -- what each status says; the others never come
  abbrev pub CountedRunCaseSays : Status → Type 0
  CountedRunCaseSays statuses.Ended = WritesArrays
  CountedRunCaseSays statuses.Trapped = WritesTrap
  CountedRunCaseSays statuses.CodeRefused = RefusesCase HasRead o
  CountedRunCaseSays statuses.WordsRefused = machine.RefusesPlan plan_form plan options.processors o × IsUnread o.source
  CountedRunCaseSays statuses.OutOfTurns = WritesOutOfTurns
  CountedRunCaseSays statuses.OutOfRoom = WritesOutOfRoom
  CountedRunCaseSays statuses.Broken = WritesBroken
  CountedRunCaseSays status = PortsSay o status

  -- The rows of such a `run` of a case with such options, in their ranges, and such a plan. Where there is one processor, the answer that a text has is
  -- written, whichever it is. What is in `meant` is a law of all runs.
  pub record CountedRunCaseRows (status : Status) : Type 0 where
    pub rows : PlannedRows (IsRefusedBy plan_form plan options.processors)
        (HasByItems plan_form plan options.processors (TextHas options)) case_limit CountedRunCaseSays o status
    pub shown : options.processors ≡ 1 → IsShown (CountedRunCaseHas options plan) o status
    pub meant : AreAsCode options 0 plan (unwatched o)
    pub completes : Completes options 0 plan (unwatched o) status

-- such a run of a case is done: an answer that may come was delivered, and its rows hold
abbrev pub IsCountedRunCase : RunOptions → (plan : List ℕ) → Ports → Status → Type 0
IsCountedRunCase options plan = IsDone (CountedRunCaseMay options plan) (CountedRunCaseRows options plan)
