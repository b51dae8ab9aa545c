use Rattle.ppm_rows.proofs.OneAnswer.{tokens_have_one_answer}
use Rattle.ppm_rows.proofs.laws.have_one_answer.Goals as goal

-- by the law of all grammars
pub returns : goal.returns
returns g = record { law = tokens_have_one_answer }
