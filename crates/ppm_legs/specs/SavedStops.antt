-- What `stop` answers of a saved text, and when it may.
use Rattle.std.specs.Prelude.{◌≡◌, ◌≢◌, ℕ, List, None}
use Rattle.ppm_ports.specs.Ports.{Port}
use Rattle.ppm_cells.specs.Finish.{finish_of}
use Rattle.ppm_core.specs.Situation.{Situation}
use Rattle.ppm_plan.specs.declared.schedule_item.ScheduleItem.{ScheduleItem}
use Rattle.ppm_following.specs.Followed.{followed}
use Rattle.ppm_saved.specs.Text.{saved_text}
use Rattle.ppm_saved_reader.specs.Rules.{saved_limit}
use Rattle.ppm_answers.specs.declared.answer.Answer.{Answer}
use Rattle.ppm_answers.specs.declared.answer.Answer.TheVariants as answers
use Rattle.ppm_answers.specs.Reading.{AreOne, FrontsDecide}
use Rattle.ppm_cli.specs.declared.stop.StopSavedOptions.{StopSavedOptions}
use Rattle.ppm_outcomes.specs.Resumes.{SavedState, saved_finish, GoesOnFrom, IsTextOf}
use Rattle.ppm_legs.specs.SavedTexts.{TextHas, LegMay}

-- the state of a machine that went on from a state, with the arrays of this one
abbrev pub state_in : SavedState → Situation → SavedState
state_in z m = record { shape = m.shape; arrays = z.arrays; code = m.code; words = m.state.words }

-- the text of a state
abbrev pub text_of : SavedState → List ℕ
text_of z = saved_text z.shape z.arrays z.code z.words

-- the state after the run that a schedule says, of at most so many acts, from a machine that went on from a state
abbrev pub state_after : StopSavedOptions → List ScheduleItem → SavedState → Situation → SavedState
state_after options items z start = state_in z (followed start items options.after)

-- The answer of a state by the items of a schedule: the saved text of the state after the run that these say, of at most so many acts, whatever its
-- finish word is. The run is that of fresh processors, one for each place, from the words that they find.
pub record StateStops (options : StopSavedOptions) (items : List ScheduleItem) (z : SavedState) (answer : Answer) : Type 0 where
  pub stands : finish_of (saved_finish z) ≢ None
  pub start : Situation
  pub goes_on : GoesOnFrom z start
  pub saves : answer ≡ answers.Saved (text_of (state_after options items z start))

-- It is so, and exactly this state is read from the text: of a machine in memory it is known that its numbers fit 64 bits.
pub record StateReads (options : StopSavedOptions) (items : List ScheduleItem) (z : SavedState) (answer : Answer) : Type 0 where
  pub has : StateStops options items z answer
  pub read_back : let end = state_after options items z has.start in IsTextOf (text_of end) end

-- the answer of a text with such options and such a schedule
abbrev pub StopHas : StopSavedOptions → (schedule : List ℕ) → List ℕ → Answer → Type 0
StopHas options schedule text answer = TextHas (StateStops options) schedule text answer

-- that of the text that was read
abbrev pub StopReads : StopSavedOptions → (schedule : List ℕ) → List ℕ → Answer → Type 0
StopReads options schedule text answer = TextHas (StateReads options) schedule text answer

-- the answers of `stop` of a saved text with such options and such a schedule
abbrev pub StopMay : StopSavedOptions → (schedule : List ℕ) → Port → Answer → Type 0
StopMay options schedule source answer = LegMay (StateReads options) schedule source answer

-- With all options and all schedules two answers of a text are one, and what stands after more bytes than a saved text may have changes none.
pub record HaveOneAnswer : Type 0 where
  pub one : (options : StopSavedOptions) (schedule : List ℕ) → AreOne (StopHas options schedule)
  pub front : (options : StopSavedOptions) (schedule : List ℕ) → FrontsDecide saved_limit (StopHas options schedule)
  pub front_read : (options : StopSavedOptions) (schedule : List ℕ) → FrontsDecide saved_limit (StopReads options schedule)
