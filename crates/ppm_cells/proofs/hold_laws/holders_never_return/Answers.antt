use Rattle.ppm_cells.proofs.HoldLemmas.{never_returns}
use Rattle.ppm_cells.proofs.hold_laws.holders_never_return.Goals as goal

pub returns : goal.returns
returns c = record { law = never_returns }
