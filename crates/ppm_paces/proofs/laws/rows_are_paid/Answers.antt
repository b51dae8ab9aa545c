use Rattle.ppm_paces.proofs.RowLemmas.{rows_are_paid}
use Rattle.ppm_paces.proofs.laws.rows_are_paid.Goals as goal

pub returns : goal.returns
returns c = record { law = rows_are_paid }
