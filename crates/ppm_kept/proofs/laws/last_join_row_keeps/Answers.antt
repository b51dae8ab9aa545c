use Rattle.ppm_kept.proofs.JoinLastRow.{last_join_row_keeps}
use Rattle.ppm_kept.proofs.laws.last_join_row_keeps.Goals as goal

pub returns : goal.returns
returns c = record { law = last_join_row_keeps }
