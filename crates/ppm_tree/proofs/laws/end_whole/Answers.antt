use Rattle.ppm_tree.proofs.WholeEnds.{ends_whole}
use Rattle.ppm_tree.proofs.laws.end_whole.Goals as goal

pub returns : goal.returns
returns c = record { law = ends_whole }
