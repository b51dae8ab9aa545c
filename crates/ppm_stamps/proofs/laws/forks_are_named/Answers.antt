use Rattle.ppm_stamps.proofs.OpenLemmas.{lefts_are_one, forks_are_opened}
use Rattle.ppm_stamps.proofs.laws.forks_are_named.Goals as goal

-- by induction on the moment
pub returns : goal.returns
returns c = λ start. record { one = λ code. lefts_are_one code; opened = λ code plain. forks_are_opened code plain }
