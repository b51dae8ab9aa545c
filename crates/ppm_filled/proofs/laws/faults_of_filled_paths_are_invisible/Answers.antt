-- By the law on invisible faults.
use Rattle.ppm_unseen.proofs.InvisibleLemmas.{faults_are_invisible}
use Rattle.ppm_filled.specs.Racing.{racing_system}
use Rattle.ppm_filled.proofs.CodeLemmas.{each}
use Rattle.ppm_filled.proofs.laws.faults_of_filled_paths_are_invisible.Goals as goal

pub returns : goal.returns
returns c = λ code r words root arrays stands. faults_are_invisible (racing_system code words root arrays)
    (λ place. (each code r words place).0) (λ place. (each code r words place).1) stands
