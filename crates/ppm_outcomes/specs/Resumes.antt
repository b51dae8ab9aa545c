-- What `resume` answers, and when it may.
use Rattle.std.specs.Prelude.{◌≡◌, ◌≢◌, ◌⊎◌, ◌≤◌, ◌<◌, ℕ, ◌+◌, ◌^◌, List, [], ◌∷◌, None, length, map}
use Rattle.std.specs.List.{AllByRecursion}
use Rattle.ppm_words.specs.Limits.{turn_limit}
use Rattle.ppm_words.specs.declared.idle.Idle.TheVariants.{Leave}
use Rattle.ppm_words.specs.declared.named_array.NamedArray.{NamedArray}
use Rattle.ppm_ports.specs.Ports.{Port}
use Rattle.ppm_ports.specs.Outside.{ToldLists}
use Rattle.ppm_cells.specs.Finish.{finish_of}
use Rattle.ppm_cells.specs.Memory.{read}
use Rattle.ppm_cells.specs.declared.cell.Cell.TheVariants.{FinishWord}
use Rattle.ppm_cells.specs.declared.shape.Shape.{Shape}
use Rattle.ppm_cells.specs.declared.shape.Takeover.TheVariants.{ByPlaces}
use Rattle.ppm_code.specs.declared.code.CodeParts.{CodeParts}
use Rattle.ppm_core.specs.Situation.{Situation, loaded}
use Rattle.ppm_choice.specs.declared.limits.Limits.{Limits}
use Rattle.ppm_plan.specs.declared.plan_item.PlanItem.{PlanItem}
use Rattle.ppm_plan.specs.Forms.{plan_form, schedule_form}
use Rattle.ppm_plan.specs.declared.schedule_item.ScheduleItem.{ScheduleItem}
use Rattle.ppm_plan.specs.Refusals.{IsAccepted}
use Rattle.ppm_plan.specs.Schedules.{Planned}
use Rattle.ppm_step.specs.Among.{IsTurnAmong}
use Rattle.ppm_step.specs.Standings.{unknown_place}
use Rattle.ppm_step.specs.declared.turn.Turn.{Turn}
use Rattle.ppm_tree.specs.Tree.{ProgramTree}
use Rattle.ppm_tree.specs.Program.{initial_arrays}
use Rattle.ppm_program.specs.Programs.{HasProgram}
use Rattle.ppm_cut_code.specs.Routines.{code_of}
use Rattle.ppm_tickets.specs.Renewal.{IsRenewal}
use Rattle.ppm_runs.specs.Legs.{Leg, AreLegs}
use Rattle.ppm_saved.specs.Names.{lengths_of}
use Rattle.ppm_saved.specs.Renewal.{AreRenewed}
use Rattle.ppm_saved.specs.declared.names.NamedLength.{NamedLength}
use Rattle.ppm_saved.specs.declared.saved.Saved.{Saved}
use Rattle.ppm_saved_reader.specs.Correct.{IsRefusal, IsSavedText}
use Rattle.ppm_saved_reader.specs.ErrorNumbers.{line_of, number_of}
use Rattle.ppm_saved_reader.specs.Rules.{saved_limit}
use Rattle.ppm_saved_reader.specs.declared.saved_error.SavedError.{SavedError}
use Rattle.ppm_saved_reader.specs.declared.saved_error.SavedError.TheVariants as errors
use Rattle.ppm_answers.specs.declared.answer.Answer.{Answer}
use Rattle.ppm_answers.specs.declared.answer.Answer.TheVariants as answers
use Rattle.ppm_answers.specs.declared.saved.SavedRefusal.{SavedRefusal}
use Rattle.ppm_answers.specs.Reading.{JudgingMay, FrontsDecide, Reads}
use Rattle.ppm_cli.specs.declared.resume.ResumeOptions.{ResumeOptions}
use Rattle.ppm_cli.specs.declared.stop.StopOptions.{StopOptions}
use Rattle.ppm_cli.specs.Words.{AreStopped}
use Rattle.ppm_outcomes.specs.Stops.{names_of, ProgramReads as StoppedReads}
use Rattle.ppm_loading.specs.Loading.{OpensRun}
use Rattle.ppm_loading.specs.Planned.{IsRefusedBy}
use Rattle.ppm_loading.specs.declared.loading.Sizes.{Sizes}
use Rattle.ppm_outcomes.specs.Legs.{words_at_last, worked_in_all, struck_in_all}
use Rattle.ppm_outcomes.specs.RunOf.{RunOf, RunGivenUp, words_behind}
use Rattle.ppm_outcomes.specs.Runs.{IsSaid, TellsOfTurns}
use Rattle.ppm_outcomes.specs.Strikes.{scheduled_faults}
use Rattle.ppm_outcomes.specs.Watchers.{AreTold, OthersKeep, ToldAtWant, IfWanting}

-- what a saved text tells: sizes, arrays without their values, code and words
pub record SavedState : Type 0 where
  pub shape : Shape
  pub arrays : List NamedLength
  pub code : CodeParts
  pub words : List ℕ

-- what a state that was read tells
abbrev pub state_of : Saved → SavedState
state_of s = record { shape = s.shape; arrays = s.names; code = s.code; words = s.words }

-- the finish word of a state
abbrev pub saved_finish : SavedState → ℕ
saved_finish z = read z.shape z.words FinishWord

-- the text of a state
pub record IsTextOf (text : List ℕ) (z : SavedState) : Type 0 where
  pub short : length text ≤ saved_limit
  pub saved : IsSavedText text z.shape z.arrays z.code z.words

-- a text is that of no state, for this fault: of the first line that is wrong the rule of the least number
pub record IsNoText (text : List ℕ) (r : SavedRefusal) : Type 0 where
  pub error : SavedError
  pub of_text : error ≢ errors.NoMemory
  pub refused : IsRefusal text error
  pub number_is : r.number ≡ number_of error
  pub line_is : r.line ≡ line_of error

-- the answer where a text is that of no state; and want of memory, which is no fault of it
abbrev pub refused_for : SavedError → Answer
refused_for e = answers.SavedRefused (record { number = number_of e; line = line_of e })

abbrev pub refusal_of : SavedError → Answer
refusal_of errors.NoMemory = answers.NoMemory
refusal_of (errors.NoSuchForm line) = refused_for (errors.NoSuchForm line)
refusal_of (errors.OutOfRange line) = refused_for (errors.OutOfRange line)
refusal_of (errors.BadListing line) = refused_for (errors.BadListing line)
refusal_of (errors.BadCode line) = refused_for (errors.BadCode line)
refusal_of (errors.WrongCount line) = refused_for (errors.WrongCount line)

-- the machine with which fresh processors go on from a state: one for each place, with the words that they find
pub record GoesOnFrom (z : SavedState) (start : Situation) : Type 0 where
  pub words : List ℕ
  pub renewed : AreRenewed z.shape z.words words
  pub loads : start ≡ loaded z.shape z.code (lengths_of z.arrays) words

-- arrays by their names alone
abbrev pub named : List NamedLength → List NamedArray
named arrays = map (λ a. record { name = a.name; values = [] }) arrays

-- the limits, as the options say them; who finds nothing to do leaves
abbrev pub limits_of : ResumeOptions → Limits
limits_of o = record { turns = o.turns; looks = o.looks; seed = o.seed; idle = Leave }

-- the plan with these items
abbrev pub plan_of : SavedState → List PlanItem → Planned
plan_of z items = record { processors = z.shape.processors; items = items }

-- A run from a state, of which this holds: from the machine with which fresh processors go on. The saved finish word stands for something.
pub record RunOfState (z : SavedState) (Run : Situation → Type 0) : Type 0 where
  pub stands : finish_of (saved_finish z) ≢ None
  pub start : Situation
  pub goes_on : GoesOnFrom z start
  pub run : Run start

-- The answer of a state by the items of a plan, where watchers were told such lists before the run and after it: that of such a run. The answer is
-- what the words say after it, with the arrays that they have for the state's names.
abbrev pub ResumedHas : ResumeOptions → (before now : ToldLists) → List PlanItem → SavedState → Answer → Type 0
ResumedHas options before now items z answer = RunOfState z (λ (start : Situation).
    RunOf (plan_of z items) (limits_of options) start (AreTold z.shape.processors (plan_of z items) (limits_of options) before now start)
    (IsSaid start.shape start.array_lengths (named z.arrays)) answer)

-- a run from a state that was given up
abbrev pub ResumedGivenUp : ResumeOptions → (before now : ToldLists) → List PlanItem → SavedState → Type 0
ResumedGivenUp options before now items z =
    RunOfState z (λ (start : Situation). RunGivenUp (plan_of z items) (limits_of options) start before now)

-- the saved finish word stands for nothing, and nobody was told anything
pub record IsBrokenBefore (before now : ToldLists) (z : SavedState) : Type 0 where
  pub none : finish_of (saved_finish z) ≡ None
  pub still : now ≡ before

-- a text is that of a state, of which this holds
pub record OfState (P : SavedState → Type 0) (text : List ℕ) : Type 0 where
  pub state : SavedState
  pub is : IsTextOf text state
  pub has : P state

-- it does by the items of a plan that may be obeyed
pub record ByItems (plan : List ℕ) (P : List PlanItem → SavedState → Type 0) (z : SavedState) : Type 0 where
  pub items : List PlanItem
  pub accepted : IsAccepted plan_form plan z.shape.processors items
  pub has : P items z

-- The answer of a state by the items of a plan: that of a run from it. The words are broken where the run says so, at a place; and at one that
-- isn't known where the saved finish word stands for nothing.
abbrev pub ItemsHave : ResumeOptions → (before now : ToldLists) → List PlanItem → SavedState → Answer → Type 0
ItemsHave options before now items z (answers.Broken place) =
    (IsBrokenBefore before now z × (place ≡ unknown_place)) ⊎ ResumedHas options before now items z (answers.Broken place)
ItemsHave options before now items z answer = ResumedHas options before now items z answer

-- its answer with a plan: that the plan is refused for its processors, or that by the items
abbrev pub StateHas : ResumeOptions → (plan : List ℕ) → (before now : ToldLists) → SavedState → Answer → Type 0
StateHas options plan before now z (answers.PlanRefused number) = IsRefusedBy plan_form plan z.shape.processors number
StateHas options plan before now z answer = ByItems plan (λ items z. ItemsHave options before now items z answer) z

-- the answer of a text, with such options and such a plan: that it is refused, or that of its state
abbrev pub TextHas : ResumeOptions → (plan : List ℕ) → (before now : ToldLists) → List ℕ → Answer → Type 0
TextHas options plan before now text (answers.SavedRefused r) = IsNoText text r
TextHas options plan before now text answer = OfState (λ z. StateHas options plan before now z answer) text

-- the answers of `resume` with such options and such a plan, where watchers were told such lists
abbrev pub ResumeMay : ResumeOptions → (plan : List ℕ) → (before now : ToldLists) → Port → Answer → Type 0
ResumeMay options plan before now source answer = JudgingMay saved_limit (TextHas options plan before now) source answer

-- a text is that of a state, and watchers without a processor of it were told nothing; or nobody was told anything
abbrev pub OthersOfTextKeep : (before now : ToldLists) → (text : List ℕ) → Type 0
OthersOfTextKeep before now text = (now ≡ before) ⊎ OfState (λ z. OthersKeep z.shape.processors before now) text

abbrev pub OthersOfSourceKeep : (before now : ToldLists) → Port → Type 0
OthersOfSourceKeep before now source =
    (now ≡ before) ⊎ ((text : List ℕ) × Reads saved_limit source text × OfState (λ z. OthersKeep z.shape.processors before now) text)

-- What watchers were told where memory is wanting: of which runs from a state the parameter `Of` says.
abbrev pub WantsOf : ResumeOptions → (before now : ToldLists) → ((List PlanItem → SavedState → Type 0) → Type 0) → Type 0
WantsOf options before now Of = ToldAtWant (Of (ResumedGivenUp options before now)) ((a : Answer) × Of (λ items z. ResumedHas options before now items z a))
    before now

-- what they were told where memory is wanting: of a run by these items; of a run by a plan; of a run of a text's state; of the text that was read
abbrev pub ItemsWant : ResumeOptions → (before now : ToldLists) → List PlanItem → SavedState → Type 0
ItemsWant options before now items z = WantsOf options before now (λ Run. Run items z)

abbrev pub StateWants : ResumeOptions → (plan : List ℕ) → (before now : ToldLists) → SavedState → Type 0
StateWants options plan before now z = WantsOf options before now (λ Run. ByItems plan Run z)

abbrev pub TextWants : ResumeOptions → (plan : List ℕ) → (before now : ToldLists) → List ℕ → Type 0
TextWants options plan before now text = WantsOf options before now (λ Run. OfState (ByItems plan Run) text)

abbrev pub ResumeWants : ResumeOptions → (plan : List ℕ) → (before now : ToldLists) → Port → Type 0
ResumeWants options plan before now source =
    WantsOf options before now (λ Run. (text : List ℕ) × Reads saved_limit source text × OfState (ByItems plan Run) text)

-- what watchers were told where an answer of a text comes: nothing where it or the plan is refused; the causes of an answer of a run say which
-- turns; watchers without a processor of the state nothing
abbrev pub TextTells : ResumeOptions → (plan text : List ℕ) → Answer → ToldLists → ToldLists → Type 0
TextTells options plan text answer before now =
    TellsOfTurns answer before now × OthersOfTextKeep before now text × IfWanting (TextWants options plan before now text) answer

-- and where one comes of what was read
abbrev pub ResumeTells : ResumeOptions → (plan : List ℕ) → Port → Answer → ToldLists → ToldLists → Type 0
ResumeTells options plan source answer before now =
    TellsOfTurns answer before now × OthersOfSourceKeep before now source × IfWanting (ResumeWants options plan before now source) answer

-- what stands after more bytes than a saved text may have changes no answer, with all options and all plans
abbrev pub FrontsDecideResumed : Type 0
FrontsDecideResumed = (options : ResumeOptions) (plan : List ℕ) (before now : ToldLists)
    → FrontsDecide saved_limit (TextHas options plan before now)

-- A state is that of a run of a source's program, with takeover by places, from its opening words, whatever turns its processors made, and
-- however often its words came back, but fewer than 2^50 times: a tag of a holder rises with each.
pub record IsLeftBy (source : List ℕ) (z : SavedState) : Type 0 where
  pub tree : ProgramTree
  pub has : HasProgram source tree
  pub sizes : Sizes
  pub places : sizes.takeover ≡ ByPlaces
  pub keeper : ℕ
  pub start : Situation
  pub opens : OpensRun sizes (code_of tree) (initial_arrays tree) keeper start
  pub legs : List Leg
  pub are : AreLegs start.shape start.code start.state.words legs
  pub turns : List Turn
  pub among : AllByRecursion (IsTurnAmong start.shape.processors) turns
  pub shape_is : z.shape ≡ start.shape
  pub code_is : z.code ≡ start.code
  pub arrays_are : z.arrays ≡ names_of (initial_arrays tree)
  pub words_are : z.words ≡ words_at_last start legs turns
  pub few : length legs < 2 ^ 50

-- what fresh processors find of such a state are words that come back
abbrev pub LeftWordsComeBack : Type 0
LeftWordsComeBack = (source : List ℕ) (z : SavedState) → IsLeftBy source z → (words : List ℕ) → AreRenewed z.shape z.words words → IsRenewal z.shape z.words words

-- the legs of such a run with the one after which these words come back
abbrev pub legs_with : {source : List ℕ} {z : SavedState} → IsLeftBy source z → (back : List ℕ) → List Leg
legs_with left back = record { turns = left.turns; back = back } ∷ left.legs

-- the state after turns of a machine with arrays of these names and lengths
abbrev pub state_behind : Situation → List NamedArray → List Turn → SavedState
state_behind m arrays turns = record { shape = m.shape; arrays = names_of arrays; code = m.code; words = words_behind m turns }

-- With takeover by places, whatever turns are made from the machine with which a run of a text's program begins: the state after them is left by
-- that text.
abbrev pub RunsLeaveStates : Type 0
RunsLeaveStates = (text : List ℕ) (t : ProgramTree) → HasProgram text t → (sizes : Sizes) → sizes.takeover ≡ ByPlaces
    → (keeper : ℕ) (m : Situation) → OpensRun sizes (code_of t) (initial_arrays t) keeper m
    → (turns : List Turn) → AllByRecursion (IsTurnAmong m.shape.processors) turns → IsLeftBy text (state_behind m (initial_arrays t) turns)

-- The state after turns of fresh processors that went on from one that a program left is left by that program too, unless words came back so
-- often.
abbrev pub ResumesLeaveStates : Type 0
ResumesLeaveStates = (source : List ℕ) (z : SavedState) (left : IsLeftBy source z) → length left.legs + 1 < 2 ^ 50
    → (start : Situation) → GoesOnFrom z start → (turns : List Turn) → AllByRecursion (IsTurnAmong start.shape.processors) turns
    → IsLeftBy source (record { shape = z.shape; arrays = z.arrays; code = z.code; words = words_behind start turns })

-- A text is that of a state which a source left: it is never refused, one state is read from it, and that one is left by the source, by turns of
-- one machine alone: at most 64 processors made no more work turns than one may be told to make, and at most so many faults struck a row of work.
pub record IsTextLeftBy (source : List ℕ) (faults : ℕ) (text : List ℕ) : Type 0 where
  pub state : SavedState
  pub is : IsTextOf text state
  pub accepted : (r : SavedRefusal) → ¬ IsNoText text r
  pub one : (z : SavedState) → IsTextOf text z → z ≡ state
  pub by : IsLeftBy source state
  pub alone : by.legs ≡ []
  pub work : worked_in_all by.start by.legs by.turns ≤ turn_limit
  pub struck : struck_in_all by.start by.legs by.turns ≤ faults
  pub small : state.shape.processors ≤ 64

-- What `stop` writes of a text's program, by the items of a schedule that is accepted, with options in their ranges: the text of a state which that
-- text left, by no more faults than the schedule has.
abbrev pub StopsLeaveStates : Type 0
StopsLeaveStates = (options : StopOptions) → AreStopped options
    → (schedule : List ℕ) (items : List ScheduleItem) → IsAccepted schedule_form schedule options.processors items
    → (text : List ℕ) (t : ProgramTree) → HasProgram text t → (answer : Answer) → StoppedReads options items t answer
    → (saved : List ℕ) × (answer ≡ answers.Saved saved) × IsTextLeftBy text (scheduled_faults items) saved
