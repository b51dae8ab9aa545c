use Rattle.ppm_stamps.proofs.NameLemmas.{touches_are_named}
use Rattle.ppm_stamps.proofs.laws.touches_are_named.Goals as goal

-- by induction on the moment
pub returns : goal.returns
returns c = λ start code. touches_are_named code
