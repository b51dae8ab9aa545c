use Rattle.ppm_cut_correct.proofs.InputLemmas.{starts_with_input}
use Rattle.ppm_cut_correct.proofs.laws.start_with_input.Goals as goal

pub returns : goal.returns
returns c = record { law = starts_with_input }
