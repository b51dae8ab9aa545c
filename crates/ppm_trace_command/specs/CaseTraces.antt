-- What `trace` answers of a case, and when it may: what it answers of a text's program, with the code and the input of the case in their place, and
-- with numbers in place of the names of procedures.
use Rattle.std.specs.Prelude.{ℕ, List}
use Rattle.ppm_ports.specs.Ports.{Port}
use Rattle.ppm_case.specs.Faults.{HasFault}
use Rattle.ppm_case.specs.Rules.{case_limit}
use Rattle.ppm_case.specs.declared.case_error.CaseFault.{CaseFault}
use Rattle.ppm_code.specs.declared.code.CodeParts.{CodeParts}
use Rattle.ppm_words.specs.declared.named_array.NamedArray.{NamedArray}
use Rattle.ppm_plan.specs.declared.schedule_item.ScheduleItem.{ScheduleItem}
use Rattle.ppm_plan.specs.Forms.{schedule_form}
use Rattle.ppm_answers.specs.declared.answer.Answer.{Answer}
use Rattle.ppm_answers.specs.Reading.{AreOne, FrontsDecide}
use Rattle.ppm_cli.specs.declared.trace.TraceOptions.{TraceOptions}
use Rattle.ppm_cli.specs.Words.{AreTraced}
use Rattle.ppm_loading.specs.Cases as cases
use Rattle.ppm_loading.specs.Planned.{PlannedHas, PlannedMay}
use Rattle.ppm_trace_command.specs.TraceNames.{case_names}
use Rattle.ppm_trace_command.specs.Traces.{CodeHas}

-- the answer of a code on its input, by the items of a schedule and by its own names
abbrev pub CaseHas : TraceOptions → List ScheduleItem → CodeParts → List NamedArray → Answer → Type 0
CaseHas options items code input answer = CodeHas options (case_names code input) items code input answer

-- the answer of a text: of its code on its input, by the items of a schedule; or its refusal
abbrev pub TextHas : TraceOptions → List ScheduleItem → List ℕ → Answer → Type 0
TextHas options items text answer = cases.TextHas (CaseHas options items) text answer

-- the answer of a text with such options and such a schedule: that the schedule is refused, or that by its items
abbrev pub TraceCaseHas : TraceOptions → (schedule : List ℕ) → List ℕ → Answer → Type 0
TraceCaseHas options schedule text answer = PlannedHas schedule_form schedule options.processors (TextHas options) text answer

-- the answers of `trace` of a case with such options and such a schedule
abbrev pub TraceCaseMay : TraceOptions → (schedule : List ℕ) → Port → Answer → Type 0
TraceCaseMay options schedule source answer =
    PlannedMay schedule_form schedule options.processors (TextHas options) case_limit source answer

-- With all options and all schedules two answers of a text are one, and what stands after more bytes than a case may have changes none; with
-- options in their ranges a text without a fault has one.
pub record HaveOneTraceAnswer : Type 0 where
  pub one : (options : TraceOptions) (schedule : List ℕ) → AreOne (TraceCaseHas options schedule)
  pub front : (options : TraceOptions) (schedule : List ℕ) → FrontsDecide case_limit (TraceCaseHas options schedule)
  pub some : (options : TraceOptions) (schedule : List ℕ) → AreTraced options
      → (text : List ℕ) → ((f : CaseFault) (line : ℕ) → ¬ HasFault text f line) → (a : Answer) × TraceCaseHas options schedule text a
