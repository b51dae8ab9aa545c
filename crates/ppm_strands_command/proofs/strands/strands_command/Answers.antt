use Rattle.ppm_case.specs.Rules.{case_limit}
use Rattle.ppm_plan.specs.Strands.{strand_form}
use Rattle.ppm_loading.proofs.PlannedLemmas.{planned_done}
use Rattle.ppm_strands_command.specs.Strands.{TextHas}
use Rattle.ppm_strands_command.proofs.OfStrands.{strands_rows}
use Rattle.ppm_strands_command.proofs.strands.strands_command.Goals as goal

-- the answer was delivered, or out of memory in its place, and the rows follow from it
pub returns : goal.returns
returns g c = record {
  delivers = planned_done strand_form c.args.schedule.now 1 (TextHas c.args.options) case_limit
      c.have_one_answer.ensures.law.strands _ _ _ c.read_answer-answer.ensures c.deliver.ensures;
  rows = strands_rows c.args.options c.args.schedule.now _ _
      (planned_done strand_form c.args.schedule.now 1 (TextHas c.args.options) case_limit
      c.have_one_answer.ensures.law.strands _ _ _ c.read_answer-answer.ensures c.deliver.ensures)
      c.have_one_answer.ensures.law c.strands_have_one_answer.ensures.law;
}
