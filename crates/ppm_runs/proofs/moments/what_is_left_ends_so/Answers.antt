use Rattle.ppm_runs.proofs.TreeLemmas.{what_is_left_ends_so, what_is_left_over_legs}
use Rattle.ppm_runs.proofs.moments.what_is_left_ends_so.Goals as goal

pub returns : goal.returns
returns c = record { law = what_is_left_ends_so; over_legs = what_is_left_over_legs }
