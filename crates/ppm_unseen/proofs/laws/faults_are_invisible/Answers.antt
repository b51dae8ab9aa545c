use Rattle.ppm_unseen.proofs.InvisibleLemmas.{faults_are_invisible}
use Rattle.ppm_unseen.proofs.TogetherLemmas.{each_run_has_one_without}
use Rattle.ppm_unseen.proofs.laws.faults_are_invisible.Goals as goal

-- strand by strand, along one history, deed by deed
pub returns-clause-histories : goal.returns-clause-histories
returns-clause-histories g c = λ s. faults_are_invisible s

-- these strands make a run
pub returns-clause-runs : goal.returns-clause-runs
returns-clause-runs g c = λ s. each_run_has_one_without s
