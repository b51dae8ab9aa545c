use Rattle.ppm_tickets.proofs.PlaceLemmas.{places_stay_home as holds}
use Rattle.ppm_tickets.proofs.laws.places_stay_home.Goals as goal

pub returns : goal.returns
returns c = record { law = holds }
