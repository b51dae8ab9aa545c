use Rattle.ppm_runs.proofs.RunnerLemmas.{runners_are_counted, beginners_are_counted, runners_are_counted_over_legs}
use Rattle.ppm_runs.proofs.moments.runners_are_counted.Goals as goal

pub returns : goal.returns
returns c = record { law = runners_are_counted; begins = beginners_are_counted; over_legs = runners_are_counted_over_legs }
