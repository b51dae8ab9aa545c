use Rattle.ppm_runs.proofs.BackLemmas.{runs_come_back, parts_come_to}
use Rattle.ppm_runs.proofs.laws.runs_come_back.Goals as goal

pub returns : goal.returns
returns c = record { back = runs_come_back; parts = parts_come_to }
