use Rattle.ppm_kept.proofs.ArriveRow.{arrive_row_keeps}
use Rattle.ppm_kept.proofs.laws.arrive_row_keeps.Goals as goal

pub returns : goal.returns
returns c = record { law = arrive_row_keeps }
