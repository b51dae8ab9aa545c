use Rattle.ppm_runs.proofs.OutcomeLemmas.{runs_end}
use Rattle.ppm_runs.proofs.laws.runs_end.Goals as goal

pub returns : goal.returns
returns c = record { law = runs_end }
