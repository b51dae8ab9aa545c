-- By the law of schedules.
use Rattle.ppm_strand_runs.proofs.OneLemmas.{runs_are_one}
use Rattle.ppm_strand_runs.proofs.laws.runs_are_one.Goals as goal

pub returns : goal.returns
returns c = record { law = runs_are_one c.schedules_have_one_run.ensures }
