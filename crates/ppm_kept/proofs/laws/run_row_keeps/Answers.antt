use Rattle.ppm_kept.proofs.Rows.{run_row_keeps}
use Rattle.ppm_kept.proofs.laws.run_row_keeps.Goals as goal

pub returns : goal.returns
returns c = record { law = run_row_keeps }
