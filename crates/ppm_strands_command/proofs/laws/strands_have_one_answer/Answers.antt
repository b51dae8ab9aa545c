use Rattle.ppm_strands_command.proofs.OneAnswer.{have_one_answer}
use Rattle.ppm_strands_command.proofs.laws.strands_have_one_answer.Goals as goal

-- from the laws of cases, of schedules and of runs
pub returns : goal.returns
returns c = record {
  law = have_one_answer c.racy_faults_tell_cases.ensures.law c.have_one_answer.ensures.law c.runs_are_one.ensures.law;
}
