use Rattle.ppm_commands.proofs.DepthAnswers.{have_one_answer}
use Rattle.ppm_commands.proofs.laws.depth_runs_have_one_answer.Goals as goal

-- from what faults tell of cases, and since a code has a run
pub returns : goal.returns
returns c = record { law = have_one_answer c.faults_tell_cases.ensures.law c.runs_are_there.ensures }
