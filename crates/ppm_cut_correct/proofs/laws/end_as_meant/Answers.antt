use Rattle.ppm_cut_correct.proofs.Theorem.{end_as_meant_everywhere}
use Rattle.ppm_cut_correct.proofs.laws.end_as_meant.Goals as goal

pub returns : goal.returns
returns c = record { law = end_as_meant_everywhere }
