use Rattle.ppm_runs.proofs.ForkLemmas.{runs_fork_so}
use Rattle.ppm_runs.proofs.HeiredLemmas.{halves_stay, once_in_each_run, runs_end_so}
use Rattle.ppm_runs.proofs.laws.runs_end_so.Goals as goal

pub returns : goal.returns
returns c = record { halves = halves_stay; once = once_in_each_run; ends = runs_end_so; forks = runs_fork_so }
