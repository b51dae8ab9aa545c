use Rattle.ppm_stamps.proofs.OneWayLemmas.{moments_are_one, earlier_pass}
use Rattle.ppm_stamps.proofs.laws.moments_are_one.Goals as goal

-- a run goes one way
pub returns : goal.returns
returns c = λ start. record { one = λ code. moments_are_one code; earlier = λ code. earlier_pass code }
