use Rattle.ppm_answers.proofs.Judged.{judging_delivered}
use Rattle.ppm_case.specs.Rules.{case_limit}
use Rattle.ppm_commands.specs.Races.{RacesHas}
use Rattle.ppm_commands.proofs.RacesRows.{races_rows}
use Rattle.ppm_commands.proofs.races.races_command.Goals as goal

-- the answer was delivered, or out of memory in its place, and the rows follow from it
pub returns : goal.returns
returns g c = record {
  delivers = judging_delivered case_limit (RacesHas c.args.capsules) _ _ _ c.races_answer-answer.ensures c.deliver.ensures;
  rows = races_rows c.args.capsules _ (c.cases_have_one_answer.ensures.law c.args.capsules) _
      (judging_delivered case_limit (RacesHas c.args.capsules) _ _ _ c.races_answer-answer.ensures c.deliver.ensures);
}
