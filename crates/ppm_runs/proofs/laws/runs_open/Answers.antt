use Rattle.ppm_runs.proofs.OpenLemmas.{runs_open}
use Rattle.ppm_runs.proofs.laws.runs_open.Goals as goal

pub returns : goal.returns
returns c = record { law = runs_open }
