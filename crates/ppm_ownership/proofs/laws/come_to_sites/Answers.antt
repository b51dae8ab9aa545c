use Rattle.ppm_ownership.proofs.Theorem.{sites_everywhere}
use Rattle.ppm_ownership.proofs.laws.come_to_sites.Goals as goal

pub returns : goal.returns
returns c = record { law = sites_everywhere }
