-- An exchange is as a put there; then by the law on invisible faults.
use Rattle.ppm_unseen.proofs.InvisibleLemmas.{faults_are_invisible}
use Rattle.ppm_racy.specs.Racing.{racy_system}
use Rattle.ppm_racy.proofs.AlikeLemmas.{racy_paths}
use Rattle.ppm_racy.proofs.laws.faults_of_racy_paths_are_invisible.Goals as goal

pub returns : goal.returns
returns c =
    let each = racy_paths c.filled_paths_are_filled.ensures in record {
      filled = each;
      invisible = λ code r words root arrays stands. faults_are_invisible (racy_system code words root arrays)
          (λ place. (each code r words place).0) (λ place. (each code r words place).1) stands;
    }
