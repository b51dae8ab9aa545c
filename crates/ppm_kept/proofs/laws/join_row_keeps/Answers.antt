use Rattle.ppm_kept.proofs.JoinLastRow.{join_row_keeps}
use Rattle.ppm_kept.proofs.laws.join_row_keeps.Goals as goal

pub returns : goal.returns
returns c = record { law = join_row_keeps }
