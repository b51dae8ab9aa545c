use Rattle.ppm_text.proofs.ReadingLemmas.{one_reading}
use Rattle.ppm_text.proofs.laws.have_one_reading.Goals as goal

pub returns : goal.returns
returns c = record { law = one_reading }
