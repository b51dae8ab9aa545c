use Rattle.ppm_takeover.proofs.PlacesReplays.{replays_end_by_places}
use Rattle.ppm_takeover.proofs.finishing.replays_end_by_places.Goals as goal

pub returns : goal.returns
returns c = record { law = replays_end_by_places }
