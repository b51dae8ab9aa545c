-- Turn by turn.
use Rattle.ppm_interleaving.proofs.AlongLemmas.{falls_refute}
use Rattle.ppm_interleaving.proofs.laws.falls_refute.Goals as goal

pub returns : goal.returns
returns c = falls_refute
