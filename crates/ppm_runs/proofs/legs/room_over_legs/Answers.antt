use Rattle.ppm_runs.proofs.LegLemmas.{room_over_legs}
use Rattle.ppm_runs.proofs.PoolLemmas.{room_is_within_over_legs}
use Rattle.ppm_runs.proofs.legs.room_over_legs.Goals as goal

pub returns : goal.returns
returns c = record { law = room_over_legs; within = room_is_within_over_legs }
