use Rattle.ppm_runs.proofs.LegForks.{forks_over_legs}
use Rattle.ppm_runs.proofs.LegLemmas.{legs_stay, once_over_legs, legs_come_to}
use Rattle.ppm_runs.proofs.legs.legs_come_to.Goals as goal

pub returns : goal.returns
returns c = record { stay = legs_stay; once = once_over_legs; law = legs_come_to; forks = forks_over_legs }
