use Rattle.ppm_layout.proofs.RootLemmas.{begins}
use Rattle.ppm_layout.proofs.laws.images_begin_with_the_root.Goals as goal

pub returns : goal.returns
returns c = record { law = begins }
