use Rattle.ppm_strands.proofs.EndStoresLemmas.{end_stores_are_unseen_are_the_same}
use Rattle.ppm_strands.proofs.capsule_laws.end_stores_are_unseen.Goals as goal

-- part by part of the code
pub returns : goal.returns
returns g c = λ eq table tails hidden. end_stores_are_unseen_are_the_same eq table tails hidden
