use Rattle.ppm_runs.proofs.GoingLemmas.{turns_go_on}
use Rattle.ppm_runs.proofs.laws.turns_go_on.Goals as goal

pub returns : goal.returns
returns c = record { law = turns_go_on }
