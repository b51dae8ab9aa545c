use Rattle.ppm_strands.proofs.StandsLemmas.{stops_change_nothing}
use Rattle.ppm_strands.proofs.capsule_laws.stops_change_nothing.Goals as goal

-- stop by stop
pub returns : goal.returns
returns g c = λ eq p m free. stops_change_nothing eq p m free
