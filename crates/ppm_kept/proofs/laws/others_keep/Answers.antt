use Rattle.ppm_kept.proofs.OtherLemmas.{others_keep}
use Rattle.ppm_kept.proofs.laws.others_keep.Goals as goal

pub returns : goal.returns
returns c = record { law = others_keep }
