use Rattle.ppm_strands_command.proofs.OneDrawnAnswer.{have_one_drawn_answer}
use Rattle.ppm_strands_command.proofs.laws.drawn_strands_have_one_answer.Goals as goal

-- from the laws of cases and of runs
pub returns : goal.returns
returns c = record { law = have_one_drawn_answer c.racy_faults_tell_cases.ensures.law c.runs_are_one.ensures.law }
