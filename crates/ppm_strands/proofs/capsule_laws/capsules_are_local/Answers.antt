use Rattle.ppm_strands.proofs.AlikeLemmas.{is_local}
use Rattle.ppm_strands.proofs.capsule_laws.capsules_are_local.Goals as goal

-- by induction on the capsule
pub returns : goal.returns
returns g c = λ eq p. is_local eq p
