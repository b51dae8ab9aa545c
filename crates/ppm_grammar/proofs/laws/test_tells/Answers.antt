use Rattle.ppm_grammar.proofs.PredictiveLemmas.{predictive}
use Rattle.ppm_grammar.proofs.laws.test_tells.Goals as goal

-- field by field
pub returns : goal.returns
returns g c = record { law = predictive }
