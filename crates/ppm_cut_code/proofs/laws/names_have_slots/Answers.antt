use Rattle.ppm_cut_code.proofs.FitsLemmas.{names_have_slots}
use Rattle.ppm_cut_code.proofs.laws.names_have_slots.Goals as goal

pub returns : goal.returns
returns c = record { law = names_have_slots }
