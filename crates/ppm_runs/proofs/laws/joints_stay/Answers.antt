use Rattle.ppm_runs.proofs.JoinLemmas.{joints_stay}
use Rattle.ppm_runs.proofs.laws.joints_stay.Goals as goal

pub returns : goal.returns
returns c = record { law = joints_stay }
