use Rattle.ppm_kept.proofs.UntakenLemmas.{all_untaken_stays}
use Rattle.ppm_kept.proofs.laws.untaken_stays.Goals as goal

pub returns : goal.returns
returns c = record { law = all_untaken_stays }
