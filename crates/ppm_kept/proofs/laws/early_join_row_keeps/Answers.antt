use Rattle.ppm_kept.proofs.JoinRow.{early_join_row_keeps}
use Rattle.ppm_kept.proofs.laws.early_join_row_keeps.Goals as goal

pub returns : goal.returns
returns c = record { law = early_join_row_keeps }
