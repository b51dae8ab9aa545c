use Rattle.ppm_grammar.proofs.WalkLemmas as walks
use Rattle.ppm_grammar.proofs.Theorem.{parsers_answer}
use Rattle.ppm_grammar.proofs.laws.parsers_answer.Goals as goal

-- a tree by its own marks, a fault since the tokens have a tree or that one
pub returns : goal.returns
returns g c = record { law = parsers_answer }
