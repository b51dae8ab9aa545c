use Rattle.ppm_cut_code.proofs.FewLemmas.{few_capsules}
use Rattle.ppm_cut_code.proofs.laws.few_capsules.Goals as goal

pub returns : goal.returns
returns c = record { law = few_capsules }
