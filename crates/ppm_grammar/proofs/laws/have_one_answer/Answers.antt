use Rattle.ppm_grammar.proofs.Theorem.{have_one_answer}
use Rattle.ppm_grammar.proofs.laws.have_one_answer.Goals as goal

-- one walk over the tokens
pub returns : goal.returns
returns g c = record { law = have_one_answer }
