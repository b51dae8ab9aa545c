use Rattle.ppm_step.proofs.QuitLemmas.{turns_have_cause}
use Rattle.ppm_step.proofs.laws.turns_have_cause.Goals as goal

pub returns : goal.returns
returns c = turns_have_cause
