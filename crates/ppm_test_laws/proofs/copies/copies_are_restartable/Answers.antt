use Rattle.ppm_test_laws.proofs.CopiesLemmas.{copies_are_restartable}
use Rattle.ppm_test_laws.proofs.copies.copies_are_restartable.Goals as goal

-- on their one path
pub returns : goal.returns
returns c = copies_are_restartable
