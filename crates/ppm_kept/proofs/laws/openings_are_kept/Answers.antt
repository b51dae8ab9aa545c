use Rattle.ppm_kept.proofs.ImageLemmas.{images_open}
use Rattle.ppm_kept.proofs.OpeningLemmas.{openings}
use Rattle.ppm_kept.proofs.laws.openings_are_kept.Goals as goal

pub returns : goal.returns
returns c = record { kept = openings; images = images_open }
