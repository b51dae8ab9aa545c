use Rattle.ppm_races.proofs.ThereLemmas.{has_verdict}
use Rattle.ppm_races.proofs.laws.verdicts_are_there.Goals as goal

-- by what the run comes to
pub returns : goal.returns
returns c = λ code input limit. has_verdict code input limit
