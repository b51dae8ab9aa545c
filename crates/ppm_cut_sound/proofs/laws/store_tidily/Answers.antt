use Rattle.ppm_cut_sound.proofs.BlockLemmas.{tidily_stored}
use Rattle.ppm_cut_sound.proofs.laws.store_tidily.Goals as goal

pub returns : goal.returns
returns c = record { law = tidily_stored }
