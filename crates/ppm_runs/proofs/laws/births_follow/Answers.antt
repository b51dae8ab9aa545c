use Rattle.ppm_runs.proofs.BearingLemmas.{births_follow}
use Rattle.ppm_runs.proofs.BrokenLemmas.{broken_follow}
use Rattle.ppm_runs.proofs.laws.births_follow.Goals as goal

pub returns : goal.returns
returns c = record { births = births_follow; broken = broken_follow }
