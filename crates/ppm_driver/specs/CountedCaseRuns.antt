-- What `run` answers of a case where what is counted in its run is told, and when it may: what it answers of a text's program, with the code and the
-- input of the case in their place.
use Rattle.std.specs.Prelude.{◌≡◌, ℕ, List}
use Rattle.ppm_ports.specs.Ports.{Port}
use Rattle.ppm_case.specs.Rules.{case_limit}
use Rattle.ppm_plan.specs.declared.plan_item.PlanItem.{PlanItem}
use Rattle.ppm_plan.specs.Forms.{plan_form}
use Rattle.ppm_answers.specs.declared.answer.Answer.{Answer}
use Rattle.ppm_answers.specs.Reading.{AreOne, FrontsDecide}
use Rattle.ppm_cli.specs.declared.run.RunOptions.{RunOptions}
use Rattle.ppm_loading.specs.Cases as cases
use Rattle.ppm_loading.specs.Planned.{PlannedHas, PlannedMay}
use Rattle.ppm_outcomes.specs.CountedRuns.{CodeHas}

-- the answer of a text: of its code on its input, by the items of a plan; or its refusal
abbrev pub TextHas : RunOptions → List PlanItem → List ℕ → Answer → Type 0
TextHas options items text answer = cases.TextHas (CodeHas options items) text answer

-- that with such options and such a plan: that the plan is refused, or that by its items
abbrev pub CountedRunCaseHas : RunOptions → (plan : List ℕ) → List ℕ → Answer → Type 0
CountedRunCaseHas options plan text answer = PlannedHas plan_form plan options.processors (TextHas options) text answer

-- the answers of such a `run` with such options and such a plan
abbrev pub CountedRunCaseMay : RunOptions → (plan : List ℕ) → Port → Answer → Type 0
CountedRunCaseMay options plan source answer = PlannedMay plan_form plan options.processors (TextHas options) case_limit source answer

-- With all plans two answers of a text are one where there is one processor, and what stands after more bytes than a case may have changes none.
pub record CountedCaseAnswersAreOne : Type 0 where
  pub one : (options : RunOptions) (plan : List ℕ) → options.processors ≡ 1 → AreOne (CountedRunCaseHas options plan)
  pub front : (options : RunOptions) (plan : List ℕ) → FrontsDecide case_limit (CountedRunCaseHas options plan)
