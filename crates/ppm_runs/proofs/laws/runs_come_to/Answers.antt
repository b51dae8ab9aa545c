use Rattle.ppm_runs.proofs.JoinLemmas.{joins_stay}
use Rattle.ppm_runs.proofs.WholeLemmas.{runs_come_to}
use Rattle.ppm_runs.proofs.laws.runs_come_to.Goals as goal

pub returns : goal.returns
returns c = record { law = runs_come_to; joins = joins_stay }
