use Rattle.ppm_cells.proofs.HoldLemmas.{bids_go_on}
use Rattle.ppm_cells.proofs.hold_laws.bids_go_on.Goals as goal

pub returns : goal.returns
returns c = record { law = bids_go_on }
