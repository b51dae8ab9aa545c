use Rattle.ppm_cut_correct.proofs.InputLemmas.{root_names_arrays}
use Rattle.ppm_cut_correct.proofs.laws.name_arrays.Goals as goal

pub returns : goal.returns
returns c = record { law = root_names_arrays }
