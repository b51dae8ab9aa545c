-- A text has no two answers where its case is run by one processor.
use Rattle.std.proofs.Common.{[]}
use Rattle.ppm_case.specs.Correct.{FaultsTellCases}
use Rattle.ppm_case.specs.Rules.{case_limit}
use Rattle.ppm_layout.specs.Correct.{ImagesAreOne}
use Rattle.ppm_plan.specs.Correct.{HaveOneAnswer as PlansHaveOneAnswer}
use Rattle.ppm_plan.specs.Forms.{plan_form}
use Rattle.ppm_loading.proofs.PlannedLemmas.{planned_one, planned_front}
use Rattle.ppm_loading.proofs.CaseLemmas.{text_one, text_front, plain}
use Rattle.ppm_driver.specs.CaseRuns.{TextHas, CaseAnswersAreOne, CaseFrontsDecide}
use Rattle.ppm_outcomes.specs.Runs.{CodeHas}
use Rattle.ppm_driver.proofs.OneRun.{RunsAreOne, code_one}
use Rattle.ppm_driver.proofs.RunCaseLemmas.{case_kinds}
use Rattle.ppm_outcomes.proofs.RunLemmas.{of_code}

-- with all plans
pub case_answers_are_one : FaultsTellCases → ImagesAreOne → PlansHaveOneAnswer → RunsAreOne → CaseAnswersAreOne
case_answers_are_one texts images plans runs options plan alone =
    planned_one plan_form plan options.processors (TextHas options 0 [] []) case_limit plans.plans
    (λ items. text_one (CodeHas options 0 [] [] items) texts (code_one images runs options alone items))

-- and a text that is too long has a front with its answer
pub case_fronts_decide : FaultsTellCases → CaseFrontsDecide
case_fronts_decide texts options watching before now plan =
    planned_front plan_form plan options.processors (TextHas options watching before now) case_limit
    (λ items. plain (CodeHas options watching before now items) (case_kinds options.processors) (of_code options watching before now items))
    (λ items. text_front (CodeHas options watching before now items) texts)
