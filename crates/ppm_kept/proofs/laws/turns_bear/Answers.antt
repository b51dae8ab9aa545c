use Rattle.ppm_kept.proofs.BearLemmas.{turns_bear}
use Rattle.ppm_kept.proofs.laws.turns_bear.Goals as goal

pub returns : goal.returns
returns c = record { law = turns_bear }
