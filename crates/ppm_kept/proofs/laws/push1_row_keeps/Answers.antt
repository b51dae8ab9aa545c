use Rattle.ppm_kept.proofs.PushRows.{push1_row_keeps}
use Rattle.ppm_kept.proofs.laws.push1_row_keeps.Goals as goal

pub returns : goal.returns
returns c = record { law = push1_row_keeps }
