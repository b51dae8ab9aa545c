use Rattle.ppm_runs.proofs.SpentLemmas.{room_is_spent}
use Rattle.ppm_runs.proofs.PoolLemmas.{room_is_within}
use Rattle.ppm_runs.proofs.laws.room_is_spent.Goals as goal

pub returns : goal.returns
returns c = record { law = room_is_spent; within = room_is_within }
