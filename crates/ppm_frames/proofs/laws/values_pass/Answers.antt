use Rattle.ppm_frames.proofs.ValueLemmas.{all_values_pass}
use Rattle.ppm_frames.proofs.laws.values_pass.Goals as goal

pub returns : goal.returns
returns c = record { law = all_values_pass }
