use Rattle.ppm_cut_code.proofs.ApartLemmas.{lines_alone}
use Rattle.ppm_cut_code.proofs.laws.lines_alone.Goals as goal

pub returns : goal.returns
returns c = record { law = lines_alone }
