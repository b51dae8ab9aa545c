use Rattle.ppm_progress.proofs.ReadyLemmas.{something_is_ready}
use Rattle.ppm_progress.proofs.WorkRuns.{some_place_is_at_work}
use Rattle.ppm_progress.proofs.LegRuns.{some_place_over_legs}
use Rattle.ppm_progress.proofs.laws.something_is_ready.Goals as goal

pub returns : goal.returns
returns c = record { law = something_is_ready; place = some_place_is_at_work; legs = some_place_over_legs }
