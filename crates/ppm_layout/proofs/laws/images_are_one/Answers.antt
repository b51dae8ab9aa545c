use Rattle.ppm_layout.proofs.OneLemmas.{one}
use Rattle.ppm_layout.proofs.laws.images_are_one.Goals as goal

pub returns : goal.returns
returns c = record { law = one }
