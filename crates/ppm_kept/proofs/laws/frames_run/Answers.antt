use Rattle.ppm_kept.proofs.RunLemmas.{frames_run}
use Rattle.ppm_kept.proofs.laws.frames_run.Goals as goal

pub returns : goal.returns
returns c = record { law = frames_run }
