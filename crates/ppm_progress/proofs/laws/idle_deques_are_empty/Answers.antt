use Rattle.ppm_progress.proofs.IdleRuns.{idle_are_empty_in_runs}
use Rattle.ppm_progress.proofs.IdleTurns.{idle_stay_empty}
use Rattle.ppm_progress.proofs.laws.idle_deques_are_empty.Goals as goal

pub returns : goal.returns
returns c = record { stay = idle_stay_empty; law = idle_are_empty_in_runs }
