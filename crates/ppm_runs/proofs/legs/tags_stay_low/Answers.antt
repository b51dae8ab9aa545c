use Rattle.ppm_runs.proofs.TagLemmas.{tags_stay_low}
use Rattle.ppm_runs.proofs.legs.tags_stay_low.Goals as goal

pub returns : goal.returns
returns c = record { law = tags_stay_low }
