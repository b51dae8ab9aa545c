use Rattle.ppm_tree.proofs.Truncation.{truncated}
use Rattle.ppm_tree.proofs.laws.divide_towards_zero.Goals as goal

pub returns : goal.returns
returns c = record { law = truncated }
