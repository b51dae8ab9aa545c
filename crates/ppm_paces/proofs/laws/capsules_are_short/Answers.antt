use Rattle.ppm_paces.proofs.CapsuleLemmas.{capsules_are_short}
use Rattle.ppm_paces.proofs.laws.capsules_are_short.Goals as goal

pub returns : goal.returns
returns c = record { law = capsules_are_short }
