use Rattle.ppm_sweep.proofs.FairLemmas.{sweeps_are_fair}
use Rattle.ppm_sweep.proofs.laws.sweeps_are_fair.Goals as goal

-- by the acts of the base run
pub returns : goal.returns
returns c = record { law = sweeps_are_fair }
