use Rattle.ppm_test_laws.proofs.RaceLemmas.{samples_are_local}
use Rattle.ppm_test_laws.proofs.races.samples_are_local.Goals as goal

-- one word is read, and one written
pub returns : goal.returns
returns c = samples_are_local
