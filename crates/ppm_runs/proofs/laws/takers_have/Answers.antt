use Rattle.ppm_runs.proofs.TakerLemmas.{takers_have}
use Rattle.ppm_runs.proofs.laws.takers_have.Goals as goal

pub returns : goal.returns
returns c = record { law = takers_have }
