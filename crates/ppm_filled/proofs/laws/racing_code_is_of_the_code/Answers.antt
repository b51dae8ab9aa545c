-- Along a capsule, and by each end.
use Rattle.ppm_filled.proofs.AloneLemmas.{is_of_the_code}
use Rattle.ppm_filled.proofs.laws.racing_code_is_of_the_code.Goals as goal

pub returns : goal.returns
returns c = is_of_the_code
