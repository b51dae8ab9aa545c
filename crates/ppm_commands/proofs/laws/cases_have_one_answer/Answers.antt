use Rattle.ppm_commands.proofs.RacesAnswers.{have_one_answer}
use Rattle.ppm_commands.proofs.laws.cases_have_one_answer.Goals as goal

-- from what faults tell of cases, and since a case has one verdict
pub returns : goal.returns
returns c = record {
  law = have_one_answer c.faults_tell_cases.ensures.law c.verdicts_are_one.ensures c.verdicts_are_there.ensures;
}
