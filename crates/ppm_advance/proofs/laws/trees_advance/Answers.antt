use Rattle.ppm_advance.proofs.TurnLemmas.{trees_advance}
use Rattle.ppm_advance.proofs.laws.trees_advance.Goals as goal

pub returns : goal.returns
returns c = record { law = trees_advance }
