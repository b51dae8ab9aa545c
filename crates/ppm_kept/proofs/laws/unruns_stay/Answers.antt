use Rattle.ppm_kept.proofs.UnrunLemmas.{unruns_stay}
use Rattle.ppm_kept.proofs.laws.unruns_stay.Goals as goal

pub returns : goal.returns
returns c = record { law = unruns_stay }
