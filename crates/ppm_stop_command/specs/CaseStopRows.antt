-- What follows from each status of `stop` of a case.
use Rattle.std.specs.Prelude.{◌≡◌, ℕ, List}
use Rattle.ppm_ports.specs.Ports.{Gets}
use Rattle.ppm_ports.specs.Outside.{Ports}
use Rattle.ppm_case.specs.Rules.{case_limit}
use Rattle.ppm_plan.specs.Forms.{schedule_form}
use Rattle.ppm_answers.specs.declared.answer.Answer.{Answer}
use Rattle.ppm_answers.specs.declared.answer.Answer.TheVariants as answers
use Rattle.ppm_answers.specs.declared.status.Status.{Status}
use Rattle.ppm_answers.specs.declared.status.Status.TheVariants as statuses
use Rattle.ppm_answers.specs.Reading.{IsUnread, ReadHas}
use Rattle.ppm_answers.specs.Rows.{PortsSay, PlannedRows, IsShown, IsDone}
use Rattle.ppm_cli.specs.declared.stop.StopOptions.{StopOptions}
use Rattle.ppm_following.specs.Followed.{followed}
use Rattle.ppm_loading.specs.MachineRows as machine
use Rattle.ppm_loading.specs.Planned.{IsRefusedBy, HasByItems}
use Rattle.ppm_saved_reader.specs.Correct.{HasState}
use Rattle.ppm_orders.specs.CaseRefusals.{RefusesCase}
use Rattle.ppm_stop_command.specs.CaseStops.{StopCaseHas, StopCaseMay, TextReads}
use Rattle.ppm_outcomes.specs.Stops.{IsReadBack, text_of}
use Rattle.ppm_loading.specs.Telling.{MayBeRun}

module _ (options : StopOptions) (schedule : List ℕ) (o : Ports) where
  -- the text that was read has this answer, with these options and this schedule
  abbrev pub HasRead : Answer → Type 0
  HasRead answer = ReadHas case_limit (HasByItems schedule_form schedule options.processors (TextReads options)) o.source answer

  -- The state after the run of the case that was read is saved, and out got exactly its text. If the code has no conflict and is tidy, this state is
  -- read from the text; else none is, so `resume` refuses it.
  pub record WritesSaved : Type 0 where
    pub text : List ℕ
    pub read : HasRead (answers.Saved text)
    pub saves : let h = read.2.has in text ≡ text_of (followed h.has.has.start read.2.items options.after) h.input
    pub read_back : let h = read.2.has in MayBeRun h.code → IsReadBack (followed h.has.has.start read.2.items options.after) h.input
    pub only : HasState text → MayBeRun read.2.has.code
    pub gets : Gets o.out text

  -- what each status says; the others never come
  abbrev pub StopCaseSays : Status → Type 0
  StopCaseSays statuses.Ended = WritesSaved
  StopCaseSays statuses.CodeRefused = RefusesCase HasRead o
  StopCaseSays statuses.WordsRefused = machine.RefusesPlan schedule_form schedule options.processors o × IsUnread o.source
  StopCaseSays status = PortsSay o status

  -- The rows of `stop` of a case with such options and such a schedule. The answer that a text has is written, whichever it is.
  pub record StopCaseRows (status : Status) : Type 0 where
    pub rows : PlannedRows (IsRefusedBy schedule_form schedule options.processors)
        (HasByItems schedule_form schedule options.processors (TextReads options)) case_limit StopCaseSays o status
    pub shown : IsShown (StopCaseHas options schedule) o status

-- a stop of a case with such options and such a schedule is done: an answer that may come was delivered, and its rows hold
abbrev pub IsCaseStopped : StopOptions → (schedule : List ℕ) → Ports → Status → Type 0
IsCaseStopped options schedule = IsDone (StopCaseMay options schedule) (StopCaseRows options schedule)
