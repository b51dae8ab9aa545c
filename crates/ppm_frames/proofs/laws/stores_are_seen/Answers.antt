use Rattle.ppm_frames.proofs.SeenLemmas.{stores_are_seen}
use Rattle.ppm_frames.proofs.laws.stores_are_seen.Goals as goal

pub returns : goal.returns
returns c = record { law = stores_are_seen }
