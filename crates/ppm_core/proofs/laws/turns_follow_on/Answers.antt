use Rattle.ppm_core.proofs.RunLemmas.{follow_on}
use Rattle.ppm_core.proofs.laws.turns_follow_on.Goals as goal

pub returns : goal.returns
returns c = follow_on
