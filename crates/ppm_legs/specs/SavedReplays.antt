-- What `replay` answers of a saved text, and when it may.
use Rattle.std.specs.Prelude.{◌≡◌, ◌≢◌, ◌<◌, ℕ, ◌+◌, ◌^◌, List, Some, None}
use Rattle.ppm_words.specs.declared.named_array.NamedArray.{NamedArray}
use Rattle.ppm_words.specs.declared.outcome.Outcome.TheVariants as outcome
use Rattle.ppm_ports.specs.Ports.{Port}
use Rattle.ppm_cells.specs.Finish.{finish_of}
use Rattle.ppm_cells.specs.declared.finish.Finish.{Finish}
use Rattle.ppm_cells.specs.declared.finish.Finish.TheVariants as finishes
use Rattle.ppm_code.specs.declared.code.CodeParts.{CodeParts}
use Rattle.ppm_core.specs.Situation.{Situation, finish_in}
use Rattle.ppm_plan.specs.Forms.{schedule_form}
use Rattle.ppm_plan.specs.Refusals.{IsAccepted}
use Rattle.ppm_plan.specs.declared.schedule_item.ScheduleItem.{ScheduleItem}
use Rattle.ppm_step.specs.Laws.{IsProposedWord}
use Rattle.ppm_step.specs.declared.turn.Turn.{Turn}
use Rattle.ppm_choice.specs.Schedules.{schedule_turns}
use Rattle.ppm_following.specs.Followed.{followed}
use Rattle.ppm_saved_reader.specs.Rules.{saved_limit}
use Rattle.ppm_answers.specs.declared.answer.Answer.{Answer}
use Rattle.ppm_answers.specs.declared.answer.Answer.TheVariants as answers
use Rattle.ppm_answers.specs.Reading.{AreOne, FrontsDecide}
use Rattle.ppm_cli.specs.declared.replay.ReplaySavedOptions.{ReplaySavedOptions}
use Rattle.ppm_outcomes.specs.AsCode.{MayRun, CodeNeedsMoreRoom}
use Rattle.ppm_outcomes.specs.CodeResumes.{IsLeftByCode, legs_of}
use Rattle.ppm_outcomes.specs.Legs.{worked_in_all}
use Rattle.ppm_outcomes.specs.LegsAsCode.{EndsAsCodeInAll, IsAsCodeInAll}
use Rattle.ppm_outcomes.specs.Replays.{IsSaid}
use Rattle.ppm_outcomes.specs.Resumes.{SavedState, saved_finish, GoesOnFrom, named}
use Rattle.ppm_legs.specs.SavedTexts.{TextHas, LegMay}

-- a finish with which a state was saved, and which fresh processors leave: no limit
abbrev pub IsLasting : Finish → Type 0
IsLasting finishes.Ended = Unit {0}
IsLasting (finishes.Trapped trap line) = Unit {0}
IsLasting (finishes.OutOfRoom place) = Unit {0}
IsLasting (finishes.Broken place) = Unit {0}
IsLasting _ = ⊥

-- what may stand in the finish word of a machine that went on from a state for at most so many acts: 0, and exactly so many were made; a word that steps
-- propose; or the word that stood in the state
pub data HasCause (z : SavedState) (acts : ℕ) (m : Situation) : Type 0 where
  Unended : finish_in m ≡ 0 → m.turns ≡ acts → HasCause z acts m
  Proposed : IsProposedWord z.shape.processors (finish_in m) → HasCause z acts m
  Stood : (finish : Finish) → finish_of (saved_finish z) ≡ Some finish → IsLasting finish → finish_in m ≡ saved_finish z → HasCause z acts m

-- The answer of a state by the items of a schedule: what the machine's words say after the run that these say, of at most so many acts, with the arrays
-- that they have for the state's names. The run is that of fresh processors, from the words that they find; forks and takes are those of this run.
pub record StateReplays (options : ReplaySavedOptions) (items : List ScheduleItem) (z : SavedState) (answer : Answer) : Type 0 where
  pub stands : finish_of (saved_finish z) ≢ None
  pub start : Situation
  pub goes_on : GoesOnFrom z start
  pub cause : HasCause z options.turns (followed start items options.turns)
  pub says : IsSaid options.turns (followed start items options.turns) (named z.arrays) answer

-- the answer of a text with such options and such a schedule
abbrev pub ReplayHas : ReplaySavedOptions → (schedule : List ℕ) → List ℕ → Answer → Type 0
ReplayHas options schedule text answer = TextHas (StateReplays options) schedule text answer

-- the answers of `replay` of a saved text with such options and such a schedule
abbrev pub ReplayMay : ReplaySavedOptions → (schedule : List ℕ) → Port → Answer → Type 0
ReplayMay options schedule source answer = LegMay (StateReplays options) schedule source answer

-- With all options and all schedules two answers of a text are one, and what stands after more bytes than a saved text may have changes none.
pub record HaveOneAnswer : Type 0 where
  pub one : (options : ReplaySavedOptions) (schedule : List ℕ) → AreOne (ReplayHas options schedule)
  pub front : (options : ReplaySavedOptions) (schedule : List ℕ) → FrontsDecide saved_limit (ReplayHas options schedule)

-- the turns of the run
abbrev pub turns_by : ReplaySavedOptions → List ScheduleItem → Situation → List Turn
turns_by options items m = schedule_turns m.shape m.code m.state items options.turns

-- What an answer says of a run from a state that a code left. An outcome is that of the code, run depth first, and over all legs each branch that was
-- forked was taken once. A full pool is that of a place, and the code takes more words. That words are broken comes only after more than
-- 2^34 + 2^28 work turns of all legs.
abbrev pub SaysAsReplayed : {code : CodeParts} {input : List NamedArray} {z : SavedState} → IsLeftByCode code input z → (back : List ℕ) → List Turn
    → Answer → Type 0
SaysAsReplayed {code} {input} {z} left back turns (answers.EndedWith arrays tally) =
    EndsAsCodeInAll left.start (legs_of left back) turns code input (outcome.Ended arrays)
SaysAsReplayed {code} {input} {z} left back turns (answers.TrappedWith trap line tally) =
    EndsAsCodeInAll left.start (legs_of left back) turns code input (outcome.Trapped trap line)
SaysAsReplayed {code} {input} {z} left back turns (answers.Unfinished acts) = Unit {0}
SaysAsReplayed {code} {input} {z} left back turns (answers.OutOfRoom place) = (place < z.shape.processors) × CodeNeedsMoreRoom code input z.shape.room
SaysAsReplayed {code} {input} {z} left back turns (answers.Broken place) = 2 ^ 34 + 2 ^ 28 < worked_in_all left.start (legs_of left back) turns
SaysAsReplayed left back turns answer = ⊥

-- a run that an answer of a state is of, where a code left the state: with the legs before it is as the code, and the answer says so
pub record IsAsReplayed {options : ReplaySavedOptions} {items : List ScheduleItem} {z : SavedState} {answer : Answer}
    (h : StateReplays options items z answer) {code : CodeParts} {input : List NamedArray} (left : IsLeftByCode code input z) : Type 0 where
  pub as_code : IsAsCodeInAll left.start (legs_of left h.start.state.words) (turns_by options items h.start) code input
  pub says : SaysAsReplayed left h.start.state.words (turns_by options items h.start) answer

-- each is so, of a sound code, by a schedule that is accepted
abbrev pub ReplaysAreAsCode : ReplaySavedOptions → Type 0
ReplaysAreAsCode options = (schedule : List ℕ) (items : List ScheduleItem) (z : SavedState) → IsAccepted schedule_form schedule z.shape.processors items
    → (answer : Answer) (h : StateReplays options items z answer)
    → (code : CodeParts) (input : List NamedArray) → MayRun code input → (left : IsLeftByCode code input z) → IsAsReplayed h left
