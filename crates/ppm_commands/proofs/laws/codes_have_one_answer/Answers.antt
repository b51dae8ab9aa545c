use Rattle.ppm_commands.proofs.CodeAnswers.{have_one_answer}
use Rattle.ppm_commands.proofs.laws.codes_have_one_answer.Goals as goal

-- from what is true of every text
pub returns : goal.returns
returns c = record { law = have_one_answer c.have_one_answer.ensures.law }
