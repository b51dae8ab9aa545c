use Rattle.ppm_kept.proofs.TurnLemmas.{steps_are_seen, stores_are_cells}
use Rattle.ppm_kept.proofs.laws.steps_are_seen.Goals as goal

pub returns : goal.returns
returns c = record { steps = steps_are_seen; cells = stores_are_cells }
