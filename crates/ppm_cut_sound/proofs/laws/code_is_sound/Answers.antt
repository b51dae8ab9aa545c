use Rattle.ppm_cut_sound.proofs.RootTame.{sound}
use Rattle.ppm_cut_sound.proofs.laws.code_is_sound.Goals as goal

pub returns : goal.returns
returns c = record { law = sound }
