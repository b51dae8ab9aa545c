use Rattle.ppm_ownership.proofs.PositionLemmas.{positions_everywhere}
use Rattle.ppm_ownership.proofs.laws.positions_are_come_to.Goals as goal

pub returns : goal.returns
returns c = record { law = positions_everywhere }
