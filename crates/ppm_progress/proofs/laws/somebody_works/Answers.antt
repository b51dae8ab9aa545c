use Rattle.ppm_progress.proofs.LegRuns.{somebody_over_legs}
use Rattle.ppm_progress.proofs.WorkRuns.{somebody_works, all_idle_is_over}
use Rattle.ppm_progress.proofs.laws.somebody_works.Goals as goal

pub returns : goal.returns
returns c = record { law = somebody_works; over = all_idle_is_over; legs = somebody_over_legs }
