-- What `trace` answers, and when it may.
use Rattle.std.specs.Prelude.{◌≡◌, ◌+◌, ℕ, List}
use Rattle.ppm_ports.specs.Ports.{Port}
use Rattle.ppm_text.specs.Limits.{text_limit}
use Rattle.ppm_core.specs.Situation.{Situation}
use Rattle.ppm_plan.specs.declared.schedule_item.ScheduleItem.{ScheduleItem}
use Rattle.ppm_plan.specs.Forms.{schedule_form}
use Rattle.ppm_plan.specs.Refusals.{IsKeeper}
use Rattle.ppm_step.specs.declared.turn.Turn.{Turn}
use Rattle.ppm_tree.specs.Tree.{ProgramTree}
use Rattle.ppm_tree.specs.Program.{initial_arrays}
use Rattle.ppm_cut_code.specs.Routines.{code_of}
use Rattle.ppm_code.specs.declared.code.CodeParts.{CodeParts}
use Rattle.ppm_words.specs.declared.named_array.NamedArray.{NamedArray}
use Rattle.ppm_answers.specs.declared.answer.Answer.{Answer}
use Rattle.ppm_answers.specs.declared.answer.Answer.TheVariants as answers
use Rattle.ppm_answers.specs.Reading.{AreOne, FrontsDecide}
use Rattle.ppm_cli.specs.declared.trace.TraceOptions.{TraceOptions}
use Rattle.ppm_cli.specs.Words.{AreTraced}
use Rattle.ppm_loading.specs.declared.loading.Sizes.{Sizes}
use Rattle.ppm_loading.specs.Loading.{OpensRun}
use Rattle.ppm_loading.specs.Planned.{PlannedHas, PlannedMay, HasSomeAnswer}
use Rattle.ppm_loading.specs.Programs as programs
use Rattle.ppm_choice.specs.Schedules.{schedule_turns}
use Rattle.ppm_naming.specs.declared.names.Names.{Names}
use Rattle.ppm_lines.specs.declared.form.Form.{Form}
use Rattle.ppm_trace.specs.Json.{trace_as}
use Rattle.ppm_orders.specs.TraceForms.{form_by}
use Rattle.ppm_trace_command.specs.TraceNames.{program_names}

-- the machine's sizes, as the options say them
abbrev pub sizes_of : TraceOptions → Sizes
sizes_of o = record { processors = o.processors; room = o.room; slots = o.slots; takeover = o.takeover }

-- the form in which a run is told, as the options say it
abbrev pub form_of : TraceOptions → Form
form_of o = form_by o.form o.only

-- the turns that a schedule says, from this machine, of so many acts at most as are not told and as are told
abbrev pub turns_by : TraceOptions → List ScheduleItem → Situation → List Turn
turns_by options items m = schedule_turns m.shape m.code m.state items (options.from + options.acts)

-- what is told of the turns of a schedule, from this machine
abbrev pub text_of : TraceOptions → Names → List ScheduleItem → Situation → List ℕ
text_of options names items m = trace_as names (form_of options) options.from m (turns_by options items m)

-- The answer of a code on an input by the items of a schedule, with these names of its arrays and procedures: what is told of the turns that these say,
-- whatever the run comes to. The run is from the machine with which a run of the code on these arrays begins, with the schedule's keeper.
pub record CodeHas (options : TraceOptions) (names : Names) (items : List ScheduleItem) (code : CodeParts) (input : List NamedArray) (answer : Answer)
    : Type 0 where
  pub keeper : ℕ
  pub spared : IsKeeper schedule_form items keeper
  pub start : Situation
  pub opens : OpensRun (sizes_of options) code input keeper start
  pub tells : answer ≡ answers.Traced (text_of options names items start)

-- that of a program: of its code on the arrays that it starts with, by the program's names
abbrev pub ProgramHas : TraceOptions → List ScheduleItem → ProgramTree → Answer → Type 0
ProgramHas options items t answer = CodeHas options (program_names t) items (code_of t) (initial_arrays t) answer

-- that of a text: its program's, or its refusal
abbrev pub TextHas : TraceOptions → List ScheduleItem → List ℕ → Answer → Type 0
TextHas options items text answer = programs.TextHas (ProgramHas options items) text answer

-- the answer of a text with such options and such a schedule: that the schedule is refused, or that by its items
abbrev pub TraceHas : TraceOptions → (schedule : List ℕ) → List ℕ → Answer → Type 0
TraceHas options schedule text answer = PlannedHas schedule_form schedule options.processors (TextHas options) text answer

-- the answers of `trace` with such options and such a schedule
abbrev pub TraceMay : TraceOptions → (schedule : List ℕ) → Port → Answer → Type 0
TraceMay options schedule source answer =
    PlannedMay schedule_form schedule options.processors (TextHas options) text_limit source answer

-- With all options and all schedules two answers of a text are one, and what stands after more bytes than a text may have changes none;
-- with options in their ranges a text that is not refused has one.
pub record HaveOneAnswer : Type 0 where
  pub one : (options : TraceOptions) (schedule : List ℕ) → AreOne (TraceHas options schedule)
  pub front : (options : TraceOptions) (schedule : List ℕ) → FrontsDecide text_limit (TraceHas options schedule)
  pub some : (options : TraceOptions) (schedule : List ℕ) → AreTraced options
      → HasSomeAnswer schedule_form schedule options.processors (TextHas options)
