use Rattle.ppm_strands.proofs.ConflictLemmas.{a_conflict_may_show}
use Rattle.ppm_strands.proofs.capsule_laws.a_conflict_may_show.Goals as goal

-- by running it
pub returns-clause-conflict : goal.returns-clause-conflict
returns-clause-conflict g c = λ eq l m. a_conflict_may_show eq l m
