use Rattle.ppm_slots.proofs.TrimLemmas.{frames_stay_trim}
use Rattle.ppm_slots.proofs.laws.frames_stay_trim.Goals as goal

pub returns : goal.returns
returns c = record { law = frames_stay_trim }
