-- What follows from each status of `trace` of a case.
use Rattle.std.specs.Prelude.{◌≡◌, ℕ, List}
use Rattle.ppm_ports.specs.Ports.{Gets}
use Rattle.ppm_ports.specs.Outside.{Ports}
use Rattle.ppm_case.specs.Rules.{case_limit}
use Rattle.ppm_plan.specs.Forms.{schedule_form}
use Rattle.ppm_answers.specs.declared.answer.Answer.{Answer}
use Rattle.ppm_answers.specs.declared.answer.Answer.TheVariants as answers
use Rattle.ppm_answers.specs.declared.status.Status.{Status}
use Rattle.ppm_answers.specs.declared.status.Status.TheVariants as statuses
use Rattle.ppm_answers.specs.Reading.{IsUnread, ReadHas}
use Rattle.ppm_answers.specs.Rows.{PortsSay, PlannedRows, IsShown, IsDone}
use Rattle.ppm_cli.specs.declared.trace.TraceOptions.{TraceOptions}
use Rattle.ppm_loading.specs.MachineRows as machine
use Rattle.ppm_loading.specs.Planned.{IsRefusedBy, HasByItems}
use Rattle.ppm_orders.specs.CaseRefusals.{RefusesCase}
use Rattle.ppm_trace_command.specs.CaseTraces.{TraceCaseHas, TraceCaseMay, TextHas}
use Rattle.ppm_trace_command.specs.TraceNames.{case_names}
use Rattle.ppm_trace_command.specs.Traces.{text_of}

module _ (options : TraceOptions) (schedule : List ℕ) (o : Ports) where
  -- the text that was read has this answer, with these options and this schedule
  abbrev pub HasRead : Answer → Type 0
  HasRead answer = ReadHas case_limit (HasByItems schedule_form schedule options.processors (TextHas options)) o.source answer

  -- the turns of the run of the case that was read are told, whatever it came to, and out got exactly what is told of them
  pub record WritesTrace : Type 0 where
    pub text : List ℕ
    pub read : HasRead (answers.Traced text)
    pub tells : let h = read.2.has in text ≡ text_of options (case_names h.code h.input) read.2.items h.has.start
    pub gets : Gets o.out text

  -- what each status says; the others never come, also where the words of the run are broken
  abbrev pub TraceCaseSays : Status → Type 0
  TraceCaseSays statuses.Ended = WritesTrace
  TraceCaseSays statuses.CodeRefused = RefusesCase HasRead o
  TraceCaseSays statuses.WordsRefused = machine.RefusesPlan schedule_form schedule options.processors o × IsUnread o.source
  TraceCaseSays status = PortsSay o status

  -- The rows of `trace` of a case with such options and such a schedule. The answer that a text has is written, whichever it is.
  pub record TraceCaseRows (status : Status) : Type 0 where
    pub rows : PlannedRows (IsRefusedBy schedule_form schedule options.processors)
        (HasByItems schedule_form schedule options.processors (TextHas options)) case_limit TraceCaseSays o status
    pub shown : IsShown (TraceCaseHas options schedule) o status

-- a trace of a case with such options and such a schedule is done: an answer that may come was delivered, and its rows hold
abbrev pub IsCaseTraced : TraceOptions → (schedule : List ℕ) → Ports → Status → Type 0
IsCaseTraced options schedule = IsDone (TraceCaseMay options schedule) (TraceCaseRows options schedule)
