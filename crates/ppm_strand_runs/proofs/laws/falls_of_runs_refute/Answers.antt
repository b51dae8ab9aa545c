-- By the law of moments.
use Rattle.ppm_strand_runs.proofs.LawLemmas.{falls_refute}
use Rattle.ppm_strand_runs.proofs.laws.falls_of_runs_refute.Goals as goal

pub returns : goal.returns
returns c = falls_refute c.falls_refute.ensures
