-- States that a run of a code on an input left, whoever wrote the code; and what an answer says of a run that goes on from one.
use Rattle.std.specs.Prelude.{◌≡◌, ◌≢◌, ◌≤◌, ◌<◌, ℕ, ◌+◌, ◌^◌, List, [], ◌∷◌, None, length}
use Rattle.std.specs.List.{AllByRecursion}
use Rattle.ppm_words.specs.Limits.{turn_limit}
use Rattle.ppm_words.specs.declared.named_array.NamedArray.{NamedArray}
use Rattle.ppm_words.specs.declared.outcome.Outcome.TheVariants as outcome
use Rattle.ppm_ports.specs.Outside.{ToldLists}
use Rattle.ppm_cells.specs.Finish.{finish_of}
use Rattle.ppm_cells.specs.declared.shape.Takeover.TheVariants.{ByPlaces}
use Rattle.ppm_code.specs.declared.code.CodeParts.{CodeParts}
use Rattle.ppm_core.specs.Situation.{Situation}
use Rattle.ppm_plan.specs.declared.plan_item.PlanItem.{PlanItem}
use Rattle.ppm_plan.specs.declared.schedule_item.ScheduleItem.{ScheduleItem}
use Rattle.ppm_plan.specs.Forms.{plan_form, schedule_form}
use Rattle.ppm_plan.specs.Refusals.{IsAccepted}
use Rattle.ppm_step.specs.Among.{IsTurnAmong}
use Rattle.ppm_step.specs.declared.turn.Turn.{Turn}
use Rattle.ppm_tree.specs.Program.{initial_arrays}
use Rattle.ppm_cut_code.specs.Routines.{code_of}
use Rattle.ppm_tickets.specs.Renewal.{IsRenewal}
use Rattle.ppm_runs.specs.Legs.{Leg, AreLegs}
use Rattle.ppm_saved.specs.Renewal.{AreRenewed}
use Rattle.ppm_answers.specs.declared.answer.Answer.{Answer}
use Rattle.ppm_answers.specs.declared.answer.Answer.TheVariants as answers
use Rattle.ppm_answers.specs.declared.saved.SavedRefusal.{SavedRefusal}
use Rattle.ppm_cli.specs.declared.resume.ResumeOptions.{ResumeOptions}
use Rattle.ppm_cli.specs.declared.stop.StopOptions.{StopOptions}
use Rattle.ppm_cli.specs.Words.{AreStopped, AreResumed}
use Rattle.ppm_loading.specs.Loading.{OpensRun}
use Rattle.ppm_loading.specs.declared.loading.Sizes.{Sizes}
use Rattle.ppm_outcomes.specs.AsCode.{MayRun, CodeNeedsMoreRoom, CodeNeedsMoreTurns}
use Rattle.ppm_outcomes.specs.CompleteAsCode.{CodeIsEnough}
use Rattle.ppm_outcomes.specs.Completeness.{IsEnd}
use Rattle.ppm_outcomes.specs.Legs.{words_at_last, worked_in_all, struck_in_all, lost_in_all}
use Rattle.ppm_outcomes.specs.LegsAsCode.{EndsAsCodeInAll, IsAsCodeInAll}
use Rattle.ppm_outcomes.specs.ResumeCompleteness.{lost_with}
use Rattle.ppm_outcomes.specs.Resumes.{SavedState, saved_finish, GoesOnFrom, IsTextOf, IsNoText, ResumedHas, TextHas, IsLeftBy, state_behind}
use Rattle.ppm_outcomes.specs.RunOf.{words_behind}
use Rattle.ppm_outcomes.specs.Stops.{names_of, CodeReads}
use Rattle.ppm_loading.specs.Telling.{MayBeRun}
use Rattle.ppm_outcomes.specs.Strikes.{scheduled_faults}

-- A state is that of a run of a code on an input, with takeover by places, from its opening words, whatever turns its processors made, and however
-- often its words came back, but fewer than 2^50 times: a tag of a holder rises with each.
pub record IsLeftByCode (code : CodeParts) (input : List NamedArray) (z : SavedState) : Type 0 where
  pub sizes : Sizes
  pub places : sizes.takeover ≡ ByPlaces
  pub keeper : ℕ
  pub start : Situation
  pub opens : OpensRun sizes code input keeper start
  pub legs : List Leg
  pub are : AreLegs start.shape start.code start.state.words legs
  pub turns : List Turn
  pub among : AllByRecursion (IsTurnAmong start.shape.processors) turns
  pub shape_is : z.shape ≡ start.shape
  pub code_is : z.code ≡ start.code
  pub arrays_are : z.arrays ≡ names_of input
  pub words_are : z.words ≡ words_at_last start legs turns
  pub few : length legs < 2 ^ 50

-- what a source left is left by the code of its program, on the arrays that this starts with
abbrev pub by_code : {source : List ℕ} {z : SavedState} → (left : IsLeftBy source z) → IsLeftByCode (code_of left.tree) (initial_arrays left.tree) z
by_code left = record {
  sizes = left.sizes;
  places = left.places;
  keeper = left.keeper;
  start = left.start;
  opens = left.opens;
  legs = left.legs;
  are = left.are;
  turns = left.turns;
  among = left.among;
  shape_is = left.shape_is;
  code_is = left.code_is;
  arrays_are = left.arrays_are;
  words_are = left.words_are;
  few = left.few;
}

module _ {code : CodeParts} {input : List NamedArray} {z : SavedState} (left : IsLeftByCode code input z) where
  -- the legs of such a run with the one after which these words come back
  abbrev pub legs_of : (back : List ℕ) → List Leg
  legs_of back = record { turns = left.turns; back = back } ∷ left.legs

  -- how many rows of work a run may lose that goes on from there by these items, after all legs that left the state
  abbrev pub faults_of : List PlanItem → ℕ
  faults_of items = lost_with (lost_in_all left.start left.legs left.turns) left.start.shape.processors items

  -- What an answer says of turns of fresh processors from the words that came back, if each may make so many work turns. An outcome is that of the
  -- code, run depth first, and over all legs each branch that was forked was taken once. Else the turns are fewer than 256 for each capsule of that
  -- run and each row of work that was lost; or that run takes more words than a pool has; or it has no end. That words are broken comes only after
  -- more than 2^34 + 2^28 work turns of all legs. No other answer comes.
  abbrev pub SaysAsResumed : (limit : ℕ) → (back : List ℕ) → List Turn → Answer → Type 0
  SaysAsResumed limit back turns (answers.Ended arrays) = EndsAsCodeInAll left.start (legs_of back) turns code input (outcome.Ended arrays)
  SaysAsResumed limit back turns (answers.Trapped trap line) = EndsAsCodeInAll left.start (legs_of back) turns code input (outcome.Trapped trap line)
  SaysAsResumed limit back turns (answers.OutOfTurns processor) = CodeNeedsMoreTurns code input (lost_in_all left.start (legs_of back) turns) limit
  SaysAsResumed limit back turns (answers.OutOfRoom place) = (place < z.shape.processors) × CodeNeedsMoreRoom code input z.shape.room
  SaysAsResumed limit back turns (answers.Broken place) = 2 ^ 34 + 2 ^ 28 < worked_in_all left.start (legs_of back) turns
  SaysAsResumed limit back turns answer = ⊥

-- A run that an answer of a state is of, where a code left the state: with the legs before it is as the code. No more rows of work were lost than
-- those before, one of each place, and one by each fault of the plan. And the answer says so.
pub record IsAsResumed {options : ResumeOptions} {before now : ToldLists} {items : List PlanItem} {z : SavedState} {answer : Answer}
    (h : ResumedHas options before now items z answer) {code : CodeParts} {input : List NamedArray} (left : IsLeftByCode code input z) : Type 0 where
  pub as_code : IsAsCodeInAll left.start (legs_of left h.start.state.words) h.run.turns code input
  pub lost : lost_in_all left.start (legs_of left h.start.state.words) h.run.turns ≤ faults_of left items
  pub says : SaysAsResumed left options.turns h.start.state.words h.run.turns answer

-- each is so, of a sound code
abbrev pub ResumesAreAsCode : ResumeOptions → (before now : ToldLists) → Type 0
ResumesAreAsCode options before now = (items : List PlanItem) (z : SavedState) (answer : Answer) (h : ResumedHas options before now items z answer)
    (code : CodeParts) (input : List NamedArray) → MayRun code input → (left : IsLeftByCode code input z) → IsAsResumed h left

-- the finish word that a sound code left stands for something
abbrev pub LeftWordsStand : Type 0
LeftWordsStand = (code : CodeParts) (input : List NamedArray) → MayRun code input → (z : SavedState) → IsLeftByCode code input z
    → finish_of (saved_finish z) ≢ None

-- what fresh processors find of a state that a sound code left are words that come back
abbrev pub CodeWordsComeBack : Type 0
CodeWordsComeBack = (code : CodeParts) (input : List NamedArray) → MayRun code input → (z : SavedState) → IsLeftByCode code input z
    → (words : List ℕ) → AreRenewed z.shape z.words words → IsRenewal z.shape z.words words

-- With takeover by places, whatever turns are made from the machine with which a run of a code begins: the state after them is left by that code.
abbrev pub RunsOfCodeLeaveStates : Type 0
RunsOfCodeLeaveStates = (code : CodeParts) (input : List NamedArray) → (sizes : Sizes) → sizes.takeover ≡ ByPlaces
    → (keeper : ℕ) (m : Situation) → OpensRun sizes code input keeper m
    → (turns : List Turn) → AllByRecursion (IsTurnAmong m.shape.processors) turns → IsLeftByCode code input (state_behind m input turns)

-- The state after turns of fresh processors that went on from one that a sound code left is left by that code too, unless words came back so often.
abbrev pub ResumesOfCodeLeaveStates : Type 0
ResumesOfCodeLeaveStates = (code : CodeParts) (input : List NamedArray) → MayRun code input
    → (z : SavedState) (left : IsLeftByCode code input z) → length left.legs + 1 < 2 ^ 50
    → (start : Situation) → GoesOnFrom z start → (turns : List Turn) → AllByRecursion (IsTurnAmong start.shape.processors) turns
    → IsLeftByCode code input (record { shape = z.shape; arrays = z.arrays; code = z.code; words = words_behind start turns })

-- A text is that of a state which a code left: it is never refused, one state is read from it, and that one is left by the code, by turns of one
-- machine alone: at most 64 processors made no more work turns than one may be told to make, and at most so many faults struck a row of work.
pub record IsTextLeftByCode (code : CodeParts) (input : List NamedArray) (faults : ℕ) (text : List ℕ) : Type 0 where
  pub state : SavedState
  pub is : IsTextOf text state
  pub accepted : (r : SavedRefusal) → ¬ IsNoText text r
  pub one : (z : SavedState) → IsTextOf text z → z ≡ state
  pub by : IsLeftByCode code input state
  pub alone : by.legs ≡ []
  pub work : worked_in_all by.start by.legs by.turns ≤ turn_limit
  pub struck : struck_in_all by.start by.legs by.turns ≤ faults
  pub small : state.shape.processors ≤ 64

-- What `stop` writes of a code that may be resumed, by the items of a schedule that is accepted, with options in their ranges: the text of a state
-- which that code left, by no more faults than the schedule has.
abbrev pub StopsOfCodeLeaveStates : Type 0
StopsOfCodeLeaveStates = (options : StopOptions) → AreStopped options
    → (schedule : List ℕ) (items : List ScheduleItem) → IsAccepted schedule_form schedule options.processors items
    → (code : CodeParts) (input : List NamedArray) → MayBeRun code → (answer : Answer) → CodeReads options items code input answer
    → (saved : List ℕ) × (answer ≡ answers.Saved saved) × IsTextLeftByCode code input (scheduled_faults items) saved

-- with options in their ranges, the text of a state that a sound code left, and a plan that is accepted for its processors: where turns and room are
-- enough for the code and its faults, each answer of the text is that the run ended
abbrev pub ResumesOfCodeComplete : Type 0
ResumesOfCodeComplete = (options : ResumeOptions) → AreResumed options → (text : List ℕ) (z : SavedState) → IsTextOf text z
    → (plan : List ℕ) (items : List PlanItem) → IsAccepted plan_form plan z.shape.processors items
    → (code : CodeParts) (input : List NamedArray) → MayRun code input
    → (left : IsLeftByCode code input z) → CodeIsEnough code input (faults_of left items) options.turns z.shape.room
    → (before now : ToldLists) (answer : Answer) → TextHas options plan before now text answer → IsEnd answer
