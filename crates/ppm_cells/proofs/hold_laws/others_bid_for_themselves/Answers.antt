use Rattle.ppm_cells.proofs.HoldLemmas.{others_bid_for_themselves}
use Rattle.ppm_cells.proofs.hold_laws.others_bid_for_themselves.Goals as goal

pub returns : goal.returns
returns c = record { law = λ own. others_bid_for_themselves own }
