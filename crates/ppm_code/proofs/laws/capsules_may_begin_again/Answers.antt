use Rattle.ppm_code.proofs.NewLemmas as new
use Rattle.ppm_code.proofs.laws.capsules_may_begin_again.Goals as goal

-- by its paths, and since no instruction reads a word of the new block
pub returns : goal.returns
returns c = new.capsules_may_begin_again
