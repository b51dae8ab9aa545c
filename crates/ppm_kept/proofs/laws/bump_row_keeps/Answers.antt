use Rattle.ppm_kept.proofs.Rows.{bump_row_keeps}
use Rattle.ppm_kept.proofs.laws.bump_row_keeps.Goals as goal

pub returns : goal.returns
returns c = record { law = bump_row_keeps }
