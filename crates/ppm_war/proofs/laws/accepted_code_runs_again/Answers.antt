use Rattle.ppm_code.specs.Strands.{instrs_of}
use Rattle.ppm_code.proofs.ConflictLemmas.{may_run_again}
use Rattle.ppm_code.proofs.NewLemmas.{capsules_may_begin_again}
use Rattle.ppm_war.proofs.laws.accepted_code_runs_again.Goals as goal

-- by the laws of code, since no capsule has a conflict
pub returns : goal.returns
returns c = λ code free. record {
  capsules = λ number array_words m. may_run_again array_words (instrs_of code number) m (free number);
  table = λ array_words point m. capsules_may_begin_again code array_words point m (free point.capsule);
}
