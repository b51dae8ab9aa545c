use Rattle.ppm_takeover.proofs.PlacesReplays.{legs_replays_end_by_places}
use Rattle.ppm_takeover.proofs.finishing.legs_replayed_end_by_places.Goals as goal

pub returns : goal.returns
returns c = record { law = legs_replays_end_by_places }
