use Rattle.ppm_cut_sound.proofs.BlockLemmas.{no_conflicts}
use Rattle.ppm_cut_sound.proofs.laws.may_be_stopped.Goals as goal

pub returns : goal.returns
returns c = record { law = no_conflicts }
