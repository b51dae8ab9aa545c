use Rattle.ppm_runs.proofs.LegSound.{nothing_breaks_over_legs, finish_stands_over_legs}
use Rattle.ppm_runs.proofs.legs.nothing_breaks_over_legs.Goals as goal

pub returns : goal.returns
returns c = record { law = nothing_breaks_over_legs; stands = finish_stands_over_legs }
