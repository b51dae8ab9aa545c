-- A text has no two answers where its RAM is run by one processor.
use Rattle.std.proofs.Common.{[]}
use Rattle.ppm_layout.specs.Correct.{ImagesAreOne}
use Rattle.ppm_plan.specs.Correct.{HaveOneAnswer as PlansHaveOneAnswer}
use Rattle.ppm_plan.specs.Forms.{plan_form}
use Rattle.ppm_ram.specs.Correct.{TextsAreOfRams}
use Rattle.ppm_ram.specs.Limits.{text_limit}
use Rattle.ppm_ram.specs.Program.{memory_of}
use Rattle.ppm_ram_code.specs.Code.{code_of}
use Rattle.ppm_ram_code.specs.Correct.{input_of}
use Rattle.ppm_loading.proofs.PlannedLemmas.{planned_one, planned_front}
use Rattle.ppm_driver.specs.RamEnds.{RamHas}
use Rattle.ppm_driver.specs.RamRuns.{TextHas, RamAnswersAreOne, RamFrontsDecide}
use Rattle.ppm_driver.proofs.OneRun.{RunsAreOne, code_one}
use Rattle.ppm_driver.proofs.RamLemmas.{of_ram}
use Rattle.ppm_orders.proofs.RamTextLemmas.{text_one, text_front, plain}
use Rattle.ppm_outcomes.proofs.RunLemmas.{kinds}

-- with all plans
pub ram_answers_are_one : TextsAreOfRams → ImagesAreOne → PlansHaveOneAnswer → RunsAreOne → RamAnswersAreOne
ram_answers_are_one texts images plans runs options plan alone =
    planned_one plan_form plan options.processors (TextHas options 0 [] []) text_limit plans.plans
    (λ items. text_one (λ ram a. RamHas ram options 0 [] [] items a) texts
    (λ ram. code_one images runs options alone items (code_of ram) (input_of (memory_of ram))))

-- and a text that is too long has a front with its answer
pub ram_fronts_decide : RamFrontsDecide
ram_fronts_decide options watching before now plan =
    planned_front plan_form plan options.processors (TextHas options watching before now) text_limit
    (λ items. plain (λ ram a. RamHas ram options watching before now items a) (kinds options.processors) (of_ram options watching before now items))
    (λ items. text_front (λ ram a. RamHas ram options watching before now items a))
