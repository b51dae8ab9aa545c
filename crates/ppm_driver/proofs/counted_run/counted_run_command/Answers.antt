use Rattle.ppm_text.specs.Limits.{text_limit}
use Rattle.ppm_plan.specs.Forms.{plan_form}
use Rattle.ppm_outcomes.specs.CountedRuns.{TextHas}
use Rattle.ppm_loading.proofs.PlannedLemmas.{planned_done}
use Rattle.ppm_driver.proofs.OfCountedRun.{counted_run_rows}
use Rattle.ppm_driver.proofs.counted_run.counted_run_command.Goals as goal

-- the answer was delivered, or out of memory in its place, and the rows follow from it
pub returns : goal.returns
returns g c = record {
  delivers = planned_done plan_form c.args.faults.now c.args.options.processors (TextHas c.args.options) text_limit
      c.have_one_answer.ensures.law.plans _ _ _ c.read_answer-answer.ensures c.deliver.ensures;
  rows = counted_run_rows c.runs_are_as_programs.ensures.law c.answers_are_one.ensures.front c.args.options c.requires.options c.args.faults.now _ _
      (planned_done plan_form c.args.faults.now c.args.options.processors (TextHas c.args.options) text_limit
      c.have_one_answer.ensures.law.plans _ _ _ c.read_answer-answer.ensures c.deliver.ensures)
      c.have_one_answer.ensures.law c.counted_answers_are_one.ensures.law c.runs_complete.ensures.law;
}
