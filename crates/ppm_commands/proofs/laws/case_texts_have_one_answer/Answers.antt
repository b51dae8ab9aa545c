use Rattle.ppm_commands.proofs.CaseTextAnswers.{have_one_answer}
use Rattle.ppm_commands.proofs.laws.case_texts_have_one_answer.Goals as goal

-- from what is true of every text
pub returns : goal.returns
returns c = record { law = have_one_answer c.have_one_answer.ensures.law }
