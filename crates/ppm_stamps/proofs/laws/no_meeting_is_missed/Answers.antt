use Rattle.ppm_stamps.proofs.SeenLemmas.{none_is_missed}
use Rattle.ppm_stamps.proofs.laws.no_meeting_is_missed.Goals as goal

-- by induction on the moment
pub returns : goal.returns
returns c = λ start code. none_is_missed code
