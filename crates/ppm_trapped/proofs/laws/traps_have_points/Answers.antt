use Rattle.ppm_trapped.proofs.SomePointLemmas.{traps_have_points}
use Rattle.ppm_trapped.proofs.laws.traps_have_points.Goals as goal

pub returns : goal.returns
returns c = record { law = traps_have_points }
