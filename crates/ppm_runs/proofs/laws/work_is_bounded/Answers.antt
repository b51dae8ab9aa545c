use Rattle.ppm_runs.proofs.BoundLemmas.{undone_are_struck}
use Rattle.ppm_runs.proofs.HeirWork.{work_is_bounded, work_is_within_256}
use Rattle.ppm_runs.proofs.laws.work_is_bounded.Goals as goal

pub returns : goal.returns
returns c = record { law = work_is_bounded; within = work_is_within_256; struck = undone_are_struck }
