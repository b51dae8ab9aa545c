-- What `trace` answers of a saved text, and when it may.
use Rattle.std.specs.Prelude.{◌≡◌, ◌≢◌, ◌+◌, ℕ, List, None}
use Rattle.ppm_ports.specs.Ports.{Port}
use Rattle.ppm_cells.specs.Finish.{finish_of}
use Rattle.ppm_core.specs.Situation.{Situation}
use Rattle.ppm_plan.specs.declared.schedule_item.ScheduleItem.{ScheduleItem}
use Rattle.ppm_step.specs.declared.turn.Turn.{Turn}
use Rattle.ppm_choice.specs.Schedules.{schedule_turns}
use Rattle.ppm_saved_reader.specs.Rules.{saved_limit}
use Rattle.ppm_show.specs.Names.{saved_names}
use Rattle.ppm_trace.specs.Json.{trace_as}
use Rattle.ppm_answers.specs.declared.answer.Answer.{Answer}
use Rattle.ppm_answers.specs.declared.answer.Answer.TheVariants as answers
use Rattle.ppm_answers.specs.Reading.{AreOne, FrontsDecide}
use Rattle.ppm_cli.specs.declared.trace.TraceSavedOptions.{TraceSavedOptions}
use Rattle.ppm_outcomes.specs.Resumes.{SavedState, saved_finish, GoesOnFrom}
use Rattle.ppm_orders.specs.TraceForms.{form_by}
use Rattle.ppm_legs.specs.SavedTexts.{TextHas, LegMay}

-- the turns that a schedule says, from this machine, of so many acts at most as are not told and as are told
abbrev pub turns_by : TraceSavedOptions → List ScheduleItem → Situation → List Turn
turns_by options items m = schedule_turns m.shape m.code m.state items (options.from + options.acts)

-- what is told of them, by the names of the state's arrays and the numbers of its procedures
abbrev pub text_by : TraceSavedOptions → List ScheduleItem → SavedState → Situation → List ℕ
text_by options items z m =
    trace_as (saved_names z.arrays z.code) (form_by options.form options.only) options.from m (turns_by options items m)

-- The answer of a state by the items of a schedule: what is told of the run that these say, whatever it comes to. The run is that of fresh processors,
-- from the words that they find; acts count from its beginning.
pub record StateTraces (options : TraceSavedOptions) (items : List ScheduleItem) (z : SavedState) (answer : Answer) : Type 0 where
  pub stands : finish_of (saved_finish z) ≢ None
  pub start : Situation
  pub goes_on : GoesOnFrom z start
  pub tells : answer ≡ answers.Traced (text_by options items z start)

-- the answer of a text with such options and such a schedule
abbrev pub TraceHas : TraceSavedOptions → (schedule : List ℕ) → List ℕ → Answer → Type 0
TraceHas options schedule text answer = TextHas (StateTraces options) schedule text answer

-- the answers of `trace` of a saved text with such options and such a schedule
abbrev pub TraceMay : TraceSavedOptions → (schedule : List ℕ) → Port → Answer → Type 0
TraceMay options schedule source answer = LegMay (StateTraces options) schedule source answer

-- With all options and all schedules two answers of a text are one, and what stands after more bytes than a saved text may have changes none.
pub record HaveOneAnswer : Type 0 where
  pub one : (options : TraceSavedOptions) (schedule : List ℕ) → AreOne (TraceHas options schedule)
  pub front : (options : TraceSavedOptions) (schedule : List ℕ) → FrontsDecide saved_limit (TraceHas options schedule)
