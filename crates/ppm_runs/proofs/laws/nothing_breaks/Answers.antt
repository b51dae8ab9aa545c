use Rattle.ppm_runs.proofs.SoundJoin.{deques_are_sound, deques_stay_sound}
use Rattle.ppm_runs.proofs.UnbrokenLemmas.{nothing_breaks}
use Rattle.ppm_runs.proofs.laws.nothing_breaks.Goals as goal

pub returns : goal.returns
returns c = record { deques = deques_are_sound; halves = deques_stay_sound; law = nothing_breaks }
