use Rattle.ppm_saved.proofs.TellLemmas.{texts_tell}
use Rattle.ppm_saved.proofs.laws.saved_texts_tell_states.Goals as goal

-- part by part
pub returns : goal.returns
returns c = record { law = texts_tell }
