use Rattle.ppm_tree.proofs.NotStuck.{none_is_stuck}
use Rattle.ppm_tree.proofs.laws.none_is_stuck.Goals as goal

pub returns : goal.returns
returns c = record { law = none_is_stuck }
