use Rattle.ppm_sweep.proofs.StrikeLemmas.{each_act_is_struck}
use Rattle.ppm_sweep.proofs.laws.each_act_is_struck.Goals as goal

-- by the turns along the base run
pub returns : goal.returns
returns c = record { law = each_act_is_struck }
