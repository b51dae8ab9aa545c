-- What follows from each status of `trace`.
use Rattle.std.specs.Prelude.{◌≡◌, ℕ, List}
use Rattle.ppm_ports.specs.Ports.{Gets}
use Rattle.ppm_ports.specs.Outside.{Ports}
use Rattle.ppm_text.specs.Limits.{text_limit}
use Rattle.ppm_plan.specs.Forms.{schedule_form}
use Rattle.ppm_answers.specs.declared.answer.Answer.{Answer}
use Rattle.ppm_answers.specs.declared.answer.Answer.TheVariants as answers
use Rattle.ppm_answers.specs.declared.status.Status.{Status}
use Rattle.ppm_answers.specs.declared.status.Status.TheVariants as statuses
use Rattle.ppm_answers.specs.Reading.{IsUnread}
use Rattle.ppm_answers.specs.Rows.{PortsSay, PlannedRows, IsShown, IsDone}
use Rattle.ppm_cli.specs.declared.trace.TraceOptions.{TraceOptions}
use Rattle.ppm_loading.specs.MachineRows as machine
use Rattle.ppm_loading.specs.Planned.{IsRefusedBy, HasByItems}
use Rattle.ppm_trace_command.specs.TraceNames.{program_names}
use Rattle.ppm_trace_command.specs.Traces.{TextHas, TraceHas, TraceMay, text_of}

module _ (options : TraceOptions) (schedule : List ℕ) (o : Ports) where
  -- the text that was read has this answer, with these options and this schedule
  abbrev pub HasRead : Answer → Type 0
  HasRead answer = machine.HasRead schedule_form schedule options.processors (TextHas options) o answer

  -- the turns of the run of the text that was read are told, whatever it came to, and out got exactly what is told of them
  pub record WritesTrace : Type 0 where
    pub text : List ℕ
    pub read : HasRead (answers.Traced text)
    pub tells : let p = read.2.has in text ≡ text_of options (program_names p.0) read.2.items p.2.start
    pub gets : Gets o.out text

  -- what each status says; the others never come
  abbrev pub TraceSays : Status → Type 0
  TraceSays statuses.Ended = WritesTrace
  TraceSays statuses.SourceRefused = machine.WritesRefusal schedule_form schedule options.processors (TextHas options) o
  TraceSays statuses.WordsRefused = machine.RefusesPlan schedule_form schedule options.processors o × IsUnread o.source
  TraceSays status = PortsSay o status

  -- The rows of `trace` with such options and such a schedule. The answer that a text has is written, whichever it is.
  pub record TraceRows (status : Status) : Type 0 where
    pub rows : PlannedRows (IsRefusedBy schedule_form schedule options.processors)
        (HasByItems schedule_form schedule options.processors (TextHas options)) text_limit TraceSays o status
    pub shown : IsShown (TraceHas options schedule) o status

-- a trace with such options and such a schedule is done: an answer that may come was delivered, and its rows hold
abbrev pub IsTraced : TraceOptions → (schedule : List ℕ) → Ports → Status → Type 0
IsTraced options schedule = IsDone (TraceMay options schedule) (TraceRows options schedule)
