use Rattle.ppm_strands.proofs.StrandLemmas.{code_is_local}
use Rattle.ppm_strands.proofs.capsule_laws.code_is_local.Goals as goal

-- by its capsules, which depend on their exposed reads
pub returns : goal.returns
returns g c = λ eq table. code_is_local eq table
