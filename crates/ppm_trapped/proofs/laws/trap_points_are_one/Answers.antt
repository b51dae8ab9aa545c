use Rattle.ppm_trapped.proofs.OnePointLemmas.{trap_points_are_one}
use Rattle.ppm_trapped.proofs.laws.trap_points_are_one.Goals as goal

pub returns : goal.returns
returns c = record { law = trap_points_are_one }
