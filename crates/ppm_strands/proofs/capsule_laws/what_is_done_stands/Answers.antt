use Rattle.ppm_strands.proofs.StandsLemmas.{stands_always}
use Rattle.ppm_strands.proofs.capsule_laws.what_is_done_stands.Goals as goal

-- step by step
pub returns : goal.returns
returns g c = λ eq p. stands_always eq p
