use Rattle.ppm_runs.proofs.SeekLemmas.{seekers_are_idle, seekers_are_idle_over_legs}
use Rattle.ppm_runs.proofs.moments.seekers_are_idle.Goals as goal

pub returns : goal.returns
returns c = record { law = seekers_are_idle; over_legs = seekers_are_idle_over_legs }
