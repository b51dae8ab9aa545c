use Rattle.ppm_core.proofs.RunLemmas.{done_is_done}
use Rattle.ppm_core.proofs.laws.done_is_done.Goals as goal

pub returns : goal.returns
returns c = done_is_done
