use Rattle.ppm_cut_correct.proofs.SerialLemmas.{serially_everywhere}
use Rattle.ppm_cut_correct.proofs.laws.ends_serially.Goals as goal

pub returns : goal.returns
returns c = record { law = serially_everywhere }
