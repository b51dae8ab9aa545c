use Rattle.ppm_kept.proofs.HeirBirths.{heirs_bear}
use Rattle.ppm_kept.proofs.HeirLemmas.{heirs_keep}
use Rattle.ppm_kept.proofs.laws.heirs_keep.Goals as goal

pub returns : goal.returns
returns c = record { law = heirs_keep; births = heirs_bear }
