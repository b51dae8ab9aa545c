use Rattle.ppm_tickets.proofs.ImageLemmas.{images_open as holds}
use Rattle.ppm_tickets.proofs.laws.images_open.Goals as goal

pub returns : goal.returns
returns c = record { law = holds }
