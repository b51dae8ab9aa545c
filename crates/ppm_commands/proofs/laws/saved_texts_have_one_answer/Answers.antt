use Rattle.ppm_commands.proofs.ShowAnswers.{have_one_answer}
use Rattle.ppm_commands.proofs.laws.saved_texts_have_one_answer.Goals as goal

-- from what faults tell of saved texts
pub returns : goal.returns
returns c = record { law = have_one_answer c.faults_tell_saved_texts.ensures.law }
