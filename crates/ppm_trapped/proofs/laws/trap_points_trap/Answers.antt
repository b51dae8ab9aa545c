use Rattle.ppm_trapped.proofs.SiteLemmas.{trap_points}
use Rattle.ppm_trapped.proofs.laws.trap_points_trap.Goals as goal

pub returns : goal.returns
returns c = record { law = trap_points }
