use Rattle.ppm_runs.proofs.LegWork.{work_over_legs, work_over_legs_is_within_256}
use Rattle.ppm_runs.proofs.legs.work_over_legs.Goals as goal

pub returns : goal.returns
returns c = record { law = work_over_legs; within = work_over_legs_is_within_256 }
