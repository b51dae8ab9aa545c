use Rattle.ppm_frames.proofs.ViewLemmas.{cells_are_viewed, others_are_unseen}
use Rattle.ppm_frames.proofs.laws.cells_are_viewed.Goals as goal

pub returns : goal.returns
returns c = record { stores = cells_are_viewed; others = others_are_unseen }
