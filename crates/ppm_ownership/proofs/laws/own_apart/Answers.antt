use Rattle.ppm_ownership.proofs.Theorem.{apart_everywhere}
use Rattle.ppm_ownership.proofs.laws.own_apart.Goals as goal

pub returns : goal.returns
returns c = record { law = apart_everywhere }
