use Rattle.ppm_kept.proofs.PushRows.{push2_row_keeps}
use Rattle.ppm_kept.proofs.laws.push2_row_keeps.Goals as goal

pub returns : goal.returns
returns c = record { law = push2_row_keeps }
