use Rattle.std.proofs.Common.{refl}
use Rattle.ppm_rows.proofs.laws.has_one_row.Goals as goal

-- by computing the test
pub returns : goal.returns
returns g = record { law = refl }
