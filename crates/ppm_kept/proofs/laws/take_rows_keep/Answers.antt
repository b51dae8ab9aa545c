use Rattle.ppm_kept.proofs.TakeRow.{take_rows_keep}
use Rattle.ppm_kept.proofs.laws.take_rows_keep.Goals as goal

pub returns : goal.returns
returns c = record { law = take_rows_keep }
