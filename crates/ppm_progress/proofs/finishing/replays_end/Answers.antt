use Rattle.ppm_progress.proofs.ReplayLemmas.{replays_end}
use Rattle.ppm_progress.proofs.finishing.replays_end.Goals as goal

pub returns : goal.returns
returns c = record { law = replays_end }
