-- What `run` answers, and when it may.
use Rattle.std.specs.Prelude.{◌≡◌, ℕ, List, [], Option, Some, None, ⊤}
use Rattle.ppm_ports.specs.Ports.{Port}
use Rattle.ppm_ports.specs.Outside.{ToldLists}
use Rattle.ppm_text.specs.Limits.{text_limit}
use Rattle.ppm_cells.specs.Ending.{ending_of}
use Rattle.ppm_cells.specs.Memory.{read}
use Rattle.ppm_cells.specs.declared.cell.Cell.TheVariants.{FinishWord}
use Rattle.ppm_cells.specs.declared.ending.Ending.TheVariants.{With}
use Rattle.ppm_cells.specs.declared.finish.Finish.TheVariants as finishes
use Rattle.ppm_cells.specs.declared.shape.Shape.{Shape}
use Rattle.ppm_core.specs.Situation.{Situation}
use Rattle.ppm_choice.specs.declared.limits.Limits.{Limits}
use Rattle.ppm_plan.specs.declared.plan_item.PlanItem.{PlanItem}
use Rattle.ppm_plan.specs.Forms.{plan_form}
use Rattle.ppm_plan.specs.Refusals.{IsAccepted, IsKeeper}
use Rattle.ppm_plan.specs.Schedules.{Planned}
use Rattle.ppm_tree.specs.Tree.{ProgramTree}
use Rattle.ppm_tree.specs.Program.{initial_arrays}
use Rattle.ppm_program.specs.Programs.{HasProgram}
use Rattle.ppm_cut_code.specs.Routines.{code_of}
use Rattle.ppm_code.specs.declared.code.CodeParts.{CodeParts}
use Rattle.ppm_words.specs.declared.named_array.NamedArray.{NamedArray}
use Rattle.ppm_answers.specs.declared.answer.Answer.{Answer}
use Rattle.ppm_answers.specs.declared.answer.Answer.TheVariants as answers
use Rattle.ppm_answers.specs.Reading.{AreOne, FrontsDecide, Reads, TellsOfRun}
use Rattle.ppm_cli.specs.declared.run.RunOptions.{RunOptions}
use Rattle.ppm_loading.specs.declared.loading.Sizes.{Sizes}
use Rattle.ppm_loading.specs.Loading.{OpensRun}
use Rattle.ppm_loading.specs.Planned.{PlannedHas, PlannedMay}
use Rattle.ppm_loading.specs.Programs as programs
use Rattle.ppm_outcomes.specs.RunOf.{RunOf, RunGivenUp}
use Rattle.ppm_loading.specs.Says.{IsOfWords, IsTheOne}
use Rattle.ppm_outcomes.specs.Watchers.{AreTold, OthersKeep, ToldAtWant, IfWanting}

-- the machine's sizes and the limits, as the options say them
abbrev pub sizes_of : RunOptions → Sizes
sizes_of o = record { processors = o.processors; room = o.room; slots = o.slots; takeover = o.takeover }

abbrev pub limits_of : RunOptions → Limits
limits_of o = record { turns = o.turns; looks = o.looks; seed = o.seed; idle = o.idle }

-- the plan with these items
abbrev pub plan_of : RunOptions → List PlanItem → Planned
plan_of options items = record { processors = options.processors; items = items }

-- the answer that words say after a run with these arrays; the run has an end
abbrev pub IsSaid : Shape → (lengths : List ℕ) → List NamedArray → (words : List ℕ) → Answer → Type 0
IsSaid s lengths arrays words answer =
    IsOfWords s lengths words answers.Ended answers.Trapped (λ processor a. a ≡ answers.OutOfTurns processor) (λ a. ⊥) arrays answer

-- why a run has no arrays, whichever these would be: the one answer that its words say, unless they say that it ended
abbrev pub SaysWhyNone : Shape → (lengths words : List ℕ) → Option Answer → Type 0
SaysWhyNone s lengths words None = ending_of (read s words FinishWord) ≡ With finishes.Ended
SaysWhyNone s lengths words (Some answer) = (arrays : List NamedArray) → IsTheOne (IsSaid s lengths arrays words) answer

-- A run of a code on an input by the items of a plan, of which this holds: from the machine with which a run of the code on these arrays begins,
-- with the plan's keeper.
pub record RunOfCode (options : RunOptions) (items : List PlanItem) (code : CodeParts) (input : List NamedArray) (Run : Situation → Type 0)
    : Type 0 where
  pub keeper : ℕ
  pub spared : IsKeeper plan_form items keeper
  pub start : Situation
  pub opens : OpensRun (sizes_of options) code input keeper start
  pub run : Run start

module _ (options : RunOptions) (watching : ℕ) (before now : ToldLists) (items : List PlanItem) where
  -- the answer of a code on an input by the items of a plan, where the first so many watchers are told what their processors do, with such lists
  -- before the run and after it: that of such a run
  abbrev pub CodeHas : CodeParts → List NamedArray → Answer → Type 0
  CodeHas code input answer = RunOfCode options items code input (λ (start : Situation).
      RunOf (plan_of options items) (limits_of options) start (AreTold watching (plan_of options items) (limits_of options) before now start)
      (IsSaid start.shape start.array_lengths input) answer)

  -- that of a program: of its code on the arrays that it starts with
  abbrev pub ProgramHas : ProgramTree → Answer → Type 0
  ProgramHas t answer = CodeHas (code_of t) (initial_arrays t) answer

module _ (options : RunOptions) (before now : ToldLists) (items : List PlanItem) where
  -- a run of a code on an input that was given up, and of a program
  abbrev pub CodeGivenUp : CodeParts → List NamedArray → Type 0
  CodeGivenUp code input =
      RunOfCode options items code input (λ (start : Situation). RunGivenUp (plan_of options items) (limits_of options) start before now)

  abbrev pub ProgramGivenUp : ProgramTree → Type 0
  ProgramGivenUp t = CodeGivenUp (code_of t) (initial_arrays t)

-- that of a text: its program's, or its refusal
abbrev pub TextHas : RunOptions → (watching : ℕ) → (before now : ToldLists) → List PlanItem → List ℕ → Answer → Type 0
TextHas options watching before now items text answer = programs.TextHas (ProgramHas options watching before now items) text answer

-- the answer of a text with such options and such a plan, whatever watchers were told: that the plan is refused, or that by its items
abbrev pub RunHas : RunOptions → (plan : List ℕ) → List ℕ → Answer → Type 0
RunHas options plan text answer = PlannedHas plan_form plan options.processors (TextHas options 0 [] []) text answer

-- the answers of `run` with such options and such a plan, where the first so many watchers are told what their processors do, and such lists
abbrev pub RunMay : RunOptions → (watching : ℕ) → (plan : List ℕ) → (before now : ToldLists) → Port → Answer → Type 0
RunMay options watching plan before now source answer =
    PlannedMay plan_form plan options.processors (TextHas options watching before now) text_limit source answer

-- The text that was read has a program, and the plan is accepted. Of this program and the plan's items this holds. Where the source's bytes are
-- known, the text is all of them.
pub record OfSource (options : RunOptions) (plan : List ℕ) (source : Port) (Run : List PlanItem → ProgramTree → Type 0) : Type 0 where
  pub text : List ℕ
  pub read : Reads text_limit source text
  pub whole : (all : List ℕ) → source.before ≡ Some all → text ≡ all
  pub program : ProgramTree
  pub has : HasProgram text program
  pub items : List PlanItem
  pub accepted : IsAccepted plan_form plan options.processors items
  pub ran : Run items program

-- the run that an answer is of: one of the program of the text that was read
abbrev pub RunMade : RunOptions → (watching : ℕ) → (plan : List ℕ) → (before now : ToldLists) → Port → Answer → Type 0
RunMade options watching plan before now source answer =
    OfSource options plan source (λ items t. ProgramHas options watching before now items t answer)

-- What watchers were told where memory is wanting: of which runs of a code the parameter `Of` says.
abbrev pub WantsOf : RunOptions → (watching : ℕ) → (before now : ToldLists) → ((List PlanItem → CodeParts → List NamedArray → Type 0) → Type 0)
    → Type 0
WantsOf options watching before now Of = ToldAtWant (Of (CodeGivenUp options before now))
    ((a : Answer) × Of (λ items code input. CodeHas options watching before now items code input a)) before now

-- what they were told where memory is wanting: of a run by these items; of a run of the program of the text that was read
abbrev pub CodeWants : RunOptions → (watching : ℕ) → (before now : ToldLists) → List PlanItem → CodeParts → List NamedArray → Type 0
CodeWants options watching before now items code input = WantsOf options watching before now (λ Run. Run items code input)

abbrev pub ProgramWants : RunOptions → (watching : ℕ) → (before now : ToldLists) → List PlanItem → ProgramTree → Type 0
ProgramWants options watching before now items t = CodeWants options watching before now items (code_of t) (initial_arrays t)

abbrev pub RunWants : RunOptions → (watching : ℕ) → (plan : List ℕ) → (before now : ToldLists) → Port → Type 0
RunWants options watching plan before now source =
    WantsOf options watching before now (λ Run. OfSource options plan source (λ items t. Run items (code_of t) (initial_arrays t)))

-- What watchers were told with an answer: nothing where there was no run. With the answer of a run its causes say which turns. Where memory is
-- wanting each list keeps what it had in front.
abbrev pub TellsOfTurns : Answer → ToldLists → ToldLists → Type 0
TellsOfTurns answer before now = TellsOfRun (λ answer before now. ⊤) answer before now

-- what watchers were told with an answer of a run, and this where memory is wanting; the watchers after the first so many were told nothing
abbrev pub RunTold : (watching : ℕ) → (Wanting : Type 0) → Answer → ToldLists → ToldLists → Type 0
RunTold watching Wanting answer before now = TellsOfTurns answer before now × OthersKeep watching before now × IfWanting Wanting answer

-- what watchers were told with an answer of a run of the text that was read
abbrev pub RunTells : RunOptions → (watching : ℕ) → (plan : List ℕ) → Port → Answer → ToldLists → ToldLists → Type 0
RunTells options watching plan source answer before now =
    RunTold watching (RunWants options watching plan before now source) answer before now

-- two answers of a text are one where there is one processor, with such options and all plans
abbrev pub AnswersAreOne : Type 0
AnswersAreOne = (options : RunOptions) (plan : List ℕ) → options.processors ≡ 1 → AreOne (RunHas options plan)

-- what stands after more bytes than a text may have changes no answer, with all options and all plans, whoever is told anything
abbrev pub FrontsDecideAnswers : Type 0
FrontsDecideAnswers = (options : RunOptions) (watching : ℕ) (before now : ToldLists) (plan : List ℕ)
    → FrontsDecide text_limit (λ text answer. PlannedHas plan_form plan options.processors (TextHas options watching before now) text answer)
