use Rattle.ppm_racy_gaps.proofs.FirstLemmas.{restartable}
use Rattle.ppm_racy_gaps.proofs.laws.racy_codes_without_flaws_are_restartable.Goals as goal

-- from what filled paths tell of faults
pub returns : goal.returns
returns c = restartable c.faults_of_racy_paths_are_invisible.ensures.filled c.faults_of_racy_paths_are_invisible.ensures.invisible
