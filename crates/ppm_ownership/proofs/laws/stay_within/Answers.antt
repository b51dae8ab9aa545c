use Rattle.ppm_ownership.proofs.Theorem.{within_everywhere}
use Rattle.ppm_ownership.proofs.laws.stay_within.Goals as goal

pub returns : goal.returns
returns c = record { law = within_everywhere }
