-- What a command answers that goes on from the state of a saved text by a schedule, and when it may.
use Rattle.std.specs.Prelude.{◌≡◌, ◌≢◌, ◌⊎◌, ℕ, List, None}
use Rattle.ppm_ports.specs.Ports.{Gets, Port}
use Rattle.ppm_ports.specs.Outside.{Ports}
use Rattle.ppm_cells.specs.Finish.{finish_of}
use Rattle.ppm_core.specs.Situation.{Situation}
use Rattle.ppm_plan.specs.declared.schedule_item.ScheduleItem.{ScheduleItem}
use Rattle.ppm_plan.specs.Forms.{schedule_form}
use Rattle.ppm_plan.specs.Refusals.{IsAccepted}
use Rattle.ppm_step.specs.Standings.{unknown_place}
use Rattle.ppm_following.specs.Followed.{followed}
use Rattle.ppm_saved_reader.specs.Rules.{saved_limit}
use Rattle.ppm_answers.specs.declared.answer.Answer.{Answer}
use Rattle.ppm_answers.specs.declared.answer.Answer.TheVariants as answers
use Rattle.ppm_answers.specs.Reading.{JudgingMay, ReadHas, Reads}
use Rattle.ppm_answers.specs.Texts.{plan_text}
use Rattle.ppm_loading.specs.Planned.{IsRefusedBy}
use Rattle.ppm_outcomes.specs.Resumes.{SavedState, saved_finish, GoesOnFrom, IsNoText, IsTextOf, OfState}

-- the state after the acts of a schedule, at most so many, of fresh processors that go on from a state
pub record IsLegOf (z : SavedState) (items : List ScheduleItem) (acts : ℕ) (m : Situation) : Type 0 where
  pub start : Situation
  pub goes_on : GoesOnFrom z start
  pub ends : m ≡ followed start items acts

-- it does by the items of a schedule that may be followed
pub record ByItems (schedule : List ℕ) (P : List ScheduleItem → SavedState → Type 0) (z : SavedState) : Type 0 where
  pub items : List ScheduleItem
  pub accepted : IsAccepted schedule_form schedule z.shape.processors items
  pub has : P items z

-- the finish word of a state stands for nothing, so its words are broken
abbrev pub IsBroken : SavedState → Type 0
IsBroken z = finish_of (saved_finish z) ≡ None

module _ (Has : List ScheduleItem → SavedState → Answer → Type 0) where
  -- the answer of a state by the items of a schedule: one of these; or there is no run, since the words are broken, at a place that isn't known
  abbrev pub ItemsHave : List ScheduleItem → SavedState → Answer → Type 0
  ItemsHave items z (answers.Broken place) = (IsBroken z × (place ≡ unknown_place)) ⊎ Has items z (answers.Broken place)
  ItemsHave items z answer = Has items z answer

  -- its answer with a schedule: that this is refused for its processors, or that by the items
  abbrev pub StateHas : (schedule : List ℕ) → SavedState → Answer → Type 0
  StateHas schedule z (answers.PlanRefused number) = IsRefusedBy schedule_form schedule z.shape.processors number
  StateHas schedule z answer = ByItems schedule (λ items z. ItemsHave items z answer) z

  -- the answer of a text with a schedule: that the text is refused, or that of its state
  abbrev pub TextHas : (schedule : List ℕ) → List ℕ → Answer → Type 0
  TextHas schedule text (answers.SavedRefused r) = IsNoText text r
  TextHas schedule text answer = OfState (λ z. StateHas schedule z answer) text

  -- the answers of a command that reads such a text first, and then judges the schedule
  abbrev pub LegMay : (schedule : List ℕ) → Port → Answer → Type 0
  LegMay schedule source answer = JudgingMay saved_limit (TextHas schedule) source answer

-- those where nothing is run: the text or the schedule is refused, or the words are broken; or it was not read whole
abbrev pub NoLegMay : (schedule : List ℕ) → Port → Answer → Type 0
NoLegMay schedule source answer = LegMay (λ items z a. ⊥) schedule source answer

-- the text that was read is that of a state, and the schedule is refused for its processors, by a number; err got exactly the line with the number
abbrev pub RefusesSchedule : (schedule : List ℕ) → Ports → Type 0
RefusesSchedule schedule o =
    (number : ℕ) × ReadHas saved_limit (TextHas (λ items z a. ⊥) schedule) o.source (answers.PlanRefused number) × Gets o.err (plan_text number)

-- the answer of a text that is that of no state
abbrev pub RefusedHas : List ℕ → Answer → Type 0
RefusedHas text (answers.SavedRefused r) = IsNoText text r
RefusedHas text answer = ⊥

-- the text that was read is that of a state
abbrev pub ReadsState : Port → SavedState → Type 0
ReadsState source z = (text : List ℕ) × Reads saved_limit source text × IsTextOf text z

-- some text is that of a state
abbrev pub HasText : SavedState → Type 0
HasText z = (text : List ℕ) × IsTextOf text z

-- the answers where there is none
abbrev pub NoStateMay : Port → Answer → Type 0
NoStateMay source answer = JudgingMay saved_limit RefusedHas source answer

-- and the schedule of these items may be followed from it: its finish word stands for something
pub record ReadsLeg (schedule : List ℕ) (source : Port) (z : SavedState) (items : List ScheduleItem) : Type 0 where
  pub state : ReadsState source z
  pub accepted : IsAccepted schedule_form schedule z.shape.processors items
  pub stands : finish_of (saved_finish z) ≢ None
