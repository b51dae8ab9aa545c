use Rattle.ppm_cut_code.proofs.PlaceLemmas.{procedures_have}
use Rattle.ppm_cut_code.proofs.laws.procedures_stand.Goals as goal

pub returns : goal.returns
returns c = record { law = procedures_have }
