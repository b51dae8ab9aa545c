use Rattle.ppm_strands.proofs.StandsLemmas.{is_idempotent}
use Rattle.ppm_strands.proofs.capsule_laws.conflict_free_is_idempotent.Goals as goal

-- what is done stands after each word step, so after each stop
pub returns : goal.returns
returns g c = λ eq p m free stops. is_idempotent eq p m free stops
