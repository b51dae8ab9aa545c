use Rattle.ppm_strands.proofs.EndStoresLemmas.{does_then_stores}
use Rattle.ppm_strands.proofs.capsule_laws.end_stores_come_last.Goals as goal

-- by induction on the capsule
pub returns : goal.returns
returns g c = λ eq tail p m. does_then_stores eq tail p m
