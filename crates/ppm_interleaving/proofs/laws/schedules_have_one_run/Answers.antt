-- Turn by turn.
use Rattle.ppm_interleaving.proofs.OneRunLemmas.{schedules_have_one_run}
use Rattle.ppm_interleaving.proofs.laws.schedules_have_one_run.Goals as goal

pub returns : goal.returns
returns c = schedules_have_one_run
