use Rattle.ppm_case.specs.Rules.{case_limit}
use Rattle.ppm_plan.specs.Forms.{plan_form}
use Rattle.ppm_loading.proofs.PlannedLemmas.{planned_done}
use Rattle.ppm_driver.specs.CountedCaseRuns.{TextHas}
use Rattle.ppm_driver.proofs.OfCountedRunCase.{counted_run_case_rows}
use Rattle.ppm_driver.proofs.counted_run_case.counted_run_case_command.Goals as goal

-- the answer was delivered, or out of memory in its place, and the rows follow from it
pub returns : goal.returns
returns g c = record {
  delivers = planned_done plan_form c.args.faults.now c.args.options.processors (TextHas c.args.options) case_limit
      c.have_one_answer.ensures.law.plans _ _ _ c.read_answer-answer.ensures c.deliver.ensures;
  rows = counted_run_case_rows (record {
    runs = c.answers_are_as_code.ensures.law;
    texts = c.faults_tell_cases.ensures.law;
    plans = c.have_one_answer.ensures.law;
    one = c.case_answers_are_one.ensures.one;
    fronts = c.case_answers_are_one.ensures.front;
  }) c.args.options c.requires.options c.args.faults.now _ _
      (planned_done plan_form c.args.faults.now c.args.options.processors (TextHas c.args.options) case_limit
      c.have_one_answer.ensures.law.plans _ _ _ c.read_answer-answer.ensures c.deliver.ensures)
      c.counted_case_answers_are_one.ensures.law;
}
