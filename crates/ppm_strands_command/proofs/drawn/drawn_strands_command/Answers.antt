use Rattle.ppm_answers.proofs.Judged.{judging_delivered}
use Rattle.ppm_case.specs.Rules.{case_limit}
use Rattle.ppm_strands_command.specs.Drawn.{DrawnHas}
use Rattle.ppm_strands_command.proofs.OfDrawn.{drawn_rows}
use Rattle.ppm_strands_command.proofs.drawn.drawn_strands_command.Goals as goal

-- the answer was delivered, or out of memory in its place, and the rows follow from it
pub returns : goal.returns
returns g c = record {
  delivers = judging_delivered case_limit (DrawnHas c.args.options) _ _ _ c.source_answer-answer.ensures c.deliver.ensures;
  rows = drawn_rows c.args.options _ c.drawn_strands_have_one_answer.ensures.law _
      (judging_delivered case_limit (DrawnHas c.args.options) _ _ _ c.source_answer-answer.ensures c.deliver.ensures);
}
