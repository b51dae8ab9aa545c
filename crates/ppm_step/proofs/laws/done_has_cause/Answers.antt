use Rattle.ppm_step.proofs.FinishLemmas.{done_has_cause}
use Rattle.ppm_step.proofs.laws.done_has_cause.Goals as goal

pub returns : goal.returns
returns c = done_has_cause
