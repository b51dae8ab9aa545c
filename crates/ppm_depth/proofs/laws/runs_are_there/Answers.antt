use Rattle.ppm_depth.proofs.ThereLemmas.{has_run}
use Rattle.ppm_depth.proofs.laws.runs_are_there.Goals as goal

-- by induction on the number of capsules
pub returns : goal.returns
returns c = λ code input limit. has_run code input limit
