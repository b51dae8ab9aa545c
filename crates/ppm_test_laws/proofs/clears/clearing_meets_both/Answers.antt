-- By the paths, and since all puts are of 0.
use Rattle.ppm_test_laws.proofs.ClearsLemmas.{meets_both}
use Rattle.ppm_test_laws.proofs.clears.clearing_meets_both.Goals as goal

pub returns : goal.returns
returns c = meets_both
