use Rattle.ppm_answers.proofs.Judged.{judging_delivered}
use Rattle.ppm_case.specs.Rules.{case_limit}
use Rattle.ppm_commands.specs.Depth.{DepthHas}
use Rattle.ppm_commands.proofs.DepthRows.{depth_rows}
use Rattle.ppm_commands.proofs.depth.depth_command.Goals as goal

-- the answer was delivered, or out of memory in its place, and the rows follow from it
pub returns : goal.returns
returns g c = record {
  delivers = judging_delivered case_limit (DepthHas c.args.capsules) _ _ _ c.depth_answer-answer.ensures c.deliver.ensures;
  rows = depth_rows c.args.capsules _ (c.depth_runs_have_one_answer.ensures.law c.args.capsules) _
      (judging_delivered case_limit (DepthHas c.args.capsules) _ _ _ c.depth_answer-answer.ensures c.deliver.ensures);
}
