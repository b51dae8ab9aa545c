use Rattle.ppm_kept.proofs.LoadLemmas.{all_loads_show}
use Rattle.ppm_kept.proofs.laws.loads_show.Goals as goal

pub returns : goal.returns
returns c = record { law = all_loads_show }
