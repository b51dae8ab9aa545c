-- What `run` answers of a case, and when it may: what it answers of a text's program, with the code and the input of the case in their place.
use Rattle.std.specs.Prelude.{◌≡◌, ℕ, List, [], Some}
use Rattle.ppm_words.specs.declared.named_array.NamedArray.{NamedArray}
use Rattle.ppm_ports.specs.Ports.{Port}
use Rattle.ppm_ports.specs.Outside.{ToldLists}
use Rattle.ppm_code.specs.declared.code.CodeParts.{CodeParts}
use Rattle.ppm_case.specs.Case.{IsCaseOf}
use Rattle.ppm_case.specs.Rules.{case_limit}
use Rattle.ppm_plan.specs.declared.plan_item.PlanItem.{PlanItem}
use Rattle.ppm_plan.specs.Forms.{plan_form}
use Rattle.ppm_plan.specs.Refusals.{IsAccepted}
use Rattle.ppm_answers.specs.declared.answer.Answer.{Answer}
use Rattle.ppm_answers.specs.Reading.{AreOne, FrontsDecide, Reads}
use Rattle.ppm_cli.specs.declared.run.RunOptions.{RunOptions}
use Rattle.ppm_loading.specs.Cases as cases
use Rattle.ppm_loading.specs.Planned.{PlannedHas, PlannedMay}
use Rattle.ppm_outcomes.specs.Runs.{CodeHas, RunTold, WantsOf}

-- the answer of a text: of its code on its input, by the items of a plan, where the first so many watchers are told what their processors do; or
-- its refusal
abbrev pub TextHas : RunOptions → (watching : ℕ) → (before now : ToldLists) → List PlanItem → List ℕ → Answer → Type 0
TextHas options watching before now items text answer = cases.TextHas (CodeHas options watching before now items) text answer

-- that with such options and such a plan, whatever watchers were told: that the plan is refused, or that by its items
abbrev pub RunCaseHas : RunOptions → (plan : List ℕ) → List ℕ → Answer → Type 0
RunCaseHas options plan text answer = PlannedHas plan_form plan options.processors (TextHas options 0 [] []) text answer

-- the answers of `run` of a case with such options and such a plan, where the first so many watchers are told what their processors do, and such
-- lists
abbrev pub RunCaseMay : RunOptions → (watching : ℕ) → (plan : List ℕ) → (before now : ToldLists) → Port → Answer → Type 0
RunCaseMay options watching plan before now source answer =
    PlannedMay plan_form plan options.processors (TextHas options watching before now) case_limit source answer

-- The text that was read is that of a case, and the plan is accepted. Of its code and input and the plan's items this holds. Where the source's
-- bytes are known, the text is all of them.
pub record OfReadCase (options : RunOptions) (plan : List ℕ) (source : Port) (Run : List PlanItem → CodeParts → List NamedArray → Type 0)
    : Type 0 where
  pub text : List ℕ
  pub read : Reads case_limit source text
  pub whole : (all : List ℕ) → source.before ≡ Some all → text ≡ all
  pub code : CodeParts
  pub input : List NamedArray
  pub is : IsCaseOf text code input
  pub items : List PlanItem
  pub accepted : IsAccepted plan_form plan options.processors items
  pub ran : Run items code input

-- the run that an answer is of: one of the case of the text that was read
abbrev pub RunCaseMade : RunOptions → (watching : ℕ) → (plan : List ℕ) → (before now : ToldLists) → Port → Answer → Type 0
RunCaseMade options watching plan before now source answer =
    OfReadCase options plan source (λ items code input. CodeHas options watching before now items code input answer)

-- what watchers were told where memory is wanting: of a run of that case
abbrev pub RunCaseWants : RunOptions → (watching : ℕ) → (plan : List ℕ) → (before now : ToldLists) → Port → Type 0
RunCaseWants options watching plan before now source = WantsOf options watching before now (OfReadCase options plan source)

-- what watchers were told with an answer of a run of the case that was read
abbrev pub RunCaseTells : RunOptions → (watching : ℕ) → (plan : List ℕ) → Port → Answer → ToldLists → ToldLists → Type 0
RunCaseTells options watching plan source answer before now =
    RunTold watching (RunCaseWants options watching plan before now source) answer before now

-- two answers of a text are one where there is one processor, with such options and all plans
abbrev pub CaseAnswersAreOne : Type 0
CaseAnswersAreOne = (options : RunOptions) (plan : List ℕ) → options.processors ≡ 1 → AreOne (RunCaseHas options plan)

-- what stands after more bytes than a case may have changes no answer, with all options and all plans, whoever is told anything
abbrev pub CaseFrontsDecide : Type 0
CaseFrontsDecide = (options : RunOptions) (watching : ℕ) (before now : ToldLists) (plan : List ℕ)
    → FrontsDecide case_limit (λ text answer. PlannedHas plan_form plan options.processors (TextHas options watching before now) text answer)
