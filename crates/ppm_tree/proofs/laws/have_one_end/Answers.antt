use Rattle.ppm_tree.proofs.OneEnd.{one_end}
use Rattle.ppm_tree.proofs.laws.have_one_end.Goals as goal

pub returns : goal.returns
returns c = record { law = one_end }
