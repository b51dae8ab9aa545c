-- What follows from each status of `stop`.
use Rattle.std.specs.Prelude.{◌≡◌, ℕ, List}
use Rattle.ppm_ports.specs.Ports.{Gets}
use Rattle.ppm_ports.specs.Outside.{Ports}
use Rattle.ppm_text.specs.Limits.{text_limit}
use Rattle.ppm_plan.specs.Forms.{schedule_form}
use Rattle.ppm_tree.specs.Program.{initial_arrays}
use Rattle.ppm_answers.specs.declared.answer.Answer.{Answer}
use Rattle.ppm_answers.specs.declared.answer.Answer.TheVariants as answers
use Rattle.ppm_answers.specs.declared.status.Status.{Status}
use Rattle.ppm_answers.specs.declared.status.Status.TheVariants as statuses
use Rattle.ppm_answers.specs.Reading.{IsUnread}
use Rattle.ppm_answers.specs.Rows.{PortsSay, PlannedRows, IsShown, IsDone}
use Rattle.ppm_cli.specs.declared.stop.StopOptions.{StopOptions}
use Rattle.ppm_following.specs.Followed.{followed}
use Rattle.ppm_loading.specs.MachineRows as machine
use Rattle.ppm_loading.specs.Planned.{IsRefusedBy, HasByItems}
use Rattle.ppm_outcomes.specs.Stops.{StopHas, StopMay, TextReads, IsReadBack, text_of}

module _ (options : StopOptions) (schedule : List ℕ) (o : Ports) where
  -- the text that was read has this answer, with these options and this schedule
  abbrev pub HasRead : Answer → Type 0
  HasRead answer = machine.HasRead schedule_form schedule options.processors (TextReads options) o answer

  -- the state after the run of the text that was read is saved, and out got exactly its text, from which this state is read back
  pub record WritesSaved : Type 0 where
    pub text : List ℕ
    pub read : HasRead (answers.Saved text)
    pub saves : let p = read.2.has in text ≡ text_of (followed p.2.has.start read.2.items options.after) (initial_arrays p.0)
    pub read_back : let p = read.2.has in IsReadBack (followed p.2.has.start read.2.items options.after) (initial_arrays p.0)
    pub gets : Gets o.out text

  -- what each status says
  abbrev pub StopSays : Status → Type 0
  StopSays statuses.Ended = WritesSaved
  StopSays statuses.SourceRefused = machine.WritesRefusal schedule_form schedule options.processors (TextReads options) o
  StopSays statuses.WordsRefused = machine.RefusesPlan schedule_form schedule options.processors o × IsUnread o.source
  StopSays status = PortsSay o status

  -- The rows of `stop` with such options and such a schedule. The answer that a text has is written, whichever it is.
  pub record StopRows (status : Status) : Type 0 where
    pub rows : PlannedRows (IsRefusedBy schedule_form schedule options.processors)
        (HasByItems schedule_form schedule options.processors (TextReads options)) text_limit StopSays o status
    pub shown : IsShown (StopHas options schedule) o status

-- a stop with such options and such a schedule is done: an answer that may come was delivered, and its rows hold
abbrev pub IsStopped : StopOptions → (schedule : List ℕ) → Ports → Status → Type 0
IsStopped options schedule = IsDone (StopMay options schedule) (StopRows options schedule)
