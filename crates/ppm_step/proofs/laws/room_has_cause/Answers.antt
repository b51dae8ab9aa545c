use Rattle.ppm_step.proofs.FilledLemmas.{room_has_header}
use Rattle.ppm_step.proofs.RoomLemmas.{room_has_cause, room_has_frame}
use Rattle.ppm_step.proofs.laws.room_has_cause.Goals as goal

pub returns : goal.returns
returns c = record { finds = room_has_cause; frame = room_has_frame; header = room_has_header }
