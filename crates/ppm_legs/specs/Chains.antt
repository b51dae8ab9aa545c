-- Chains of stops: a text that `stop` wrote of a saved text that it wrote before, and so on.
use Rattle.std.specs.Prelude.{◌≡◌, ◌≤◌, ◌<◌, ℕ, ◌+◌, ◌*◌, ◌^◌, List, length}
use Rattle.ppm_words.specs.Limits.{turn_limit}
use Rattle.ppm_words.specs.declared.named_array.NamedArray.{NamedArray}
use Rattle.ppm_code.specs.declared.code.CodeParts.{CodeParts}
use Rattle.ppm_plan.specs.declared.schedule_item.ScheduleItem.{ScheduleItem}
use Rattle.ppm_plan.specs.Forms.{schedule_form}
use Rattle.ppm_plan.specs.Refusals.{IsAccepted}
use Rattle.ppm_answers.specs.declared.answer.Answer.{Answer}
use Rattle.ppm_answers.specs.declared.answer.Answer.TheVariants as answers
use Rattle.ppm_answers.specs.declared.saved.SavedRefusal.{SavedRefusal}
use Rattle.ppm_cli.specs.declared.stop.StopSavedOptions.{StopSavedOptions}
use Rattle.ppm_cli.specs.Words.{AreSavedStopped}
use Rattle.ppm_outcomes.specs.AsCode.{MayRun}
use Rattle.ppm_outcomes.specs.CodeResumes.{IsLeftByCode, IsTextLeftByCode}
use Rattle.ppm_outcomes.specs.Legs.{worked_in_all, struck_in_all}
use Rattle.ppm_outcomes.specs.Resumes.{SavedState, IsNoText, IsTextOf}
use Rattle.ppm_outcomes.specs.Strikes.{scheduled_faults}
use Rattle.ppm_legs.specs.SavedStops.{StateReads}

-- A text is that of a state which a code on an input left, over so many stops: it is never refused, one state is read from it, and that one is left by
-- the code. Its processors, 64 at most, made in all no more work turns than so many stops may be told to make; and at most so many faults in all struck a
-- row of work.
pub record IsTextOfChain (code : CodeParts) (input : List NamedArray) (stops faults : ℕ) (text : List ℕ) : Type 0 where
  pub state : SavedState
  pub is : IsTextOf text state
  pub accepted : (r : SavedRefusal) → ¬ IsNoText text r
  pub one : (z : SavedState) → IsTextOf text z → z ≡ state
  pub by : IsLeftByCode code input state
  pub legs : length by.legs < stops
  pub work : worked_in_all by.start by.legs by.turns ≤ stops * turn_limit
  pub struck : struck_in_all by.start by.legs by.turns ≤ faults
  pub small : state.shape.processors ≤ 64

-- a text that one stop wrote of a code is the first of a chain
abbrev pub StopsBeginChains : Type 0
StopsBeginChains = (code : CodeParts) (input : List NamedArray) (faults : ℕ) (text : List ℕ) → IsTextLeftByCode code input faults text
    → IsTextOfChain code input 1 faults text

-- What `stop` writes of a text of a chain, by the items of a schedule that is accepted for its processors, with options in their ranges: a text of the
-- chain with one stop more, and no more faults more than the schedule has. There may be fewer than 2^50 stops: a tag of a holder rises with each.
abbrev pub StopsGoOnChains : Type 0
StopsGoOnChains = (options : StopSavedOptions) → AreSavedStopped options
    → (text : List ℕ) (z : SavedState) → IsTextOf text z
    → (schedule : List ℕ) (items : List ScheduleItem) → IsAccepted schedule_form schedule z.shape.processors items
    → (code : CodeParts) (input : List NamedArray) → MayRun code input
    → (stops faults : ℕ) → IsTextOfChain code input stops faults text → stops < 2 ^ 50
    → (answer : Answer) → StateReads options items z answer
    → (saved : List ℕ) × (answer ≡ answers.Saved saved) × IsTextOfChain code input (stops + 1) (faults + scheduled_faults items) saved
