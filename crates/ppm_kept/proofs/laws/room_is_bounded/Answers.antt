use Rattle.ppm_kept.proofs.RoomLemmas.{room_is_bounded}
use Rattle.ppm_kept.proofs.SpentLemmas.{full_pools_are_spent}
use Rattle.ppm_kept.proofs.laws.room_is_bounded.Goals as goal

pub returns : goal.returns
returns c = record { law = room_is_bounded; spent = full_pools_are_spent }
