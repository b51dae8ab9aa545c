use Rattle.ppm_layout.proofs.ValueLemmas.{stands_for}
use Rattle.ppm_layout.proofs.laws.words_stand_for_values.Goals as goal

pub returns : goal.returns
returns c = record { law = stands_for }
