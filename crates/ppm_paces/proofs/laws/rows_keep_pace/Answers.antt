use Rattle.ppm_paces.proofs.RunLemmas.{rows_keep_pace}
use Rattle.ppm_paces.proofs.laws.rows_keep_pace.Goals as goal

pub returns : goal.returns
returns c = record { law = rows_keep_pace }
