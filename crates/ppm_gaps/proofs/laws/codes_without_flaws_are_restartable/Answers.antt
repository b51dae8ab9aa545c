use Rattle.ppm_filled.specs.Correct.{HasFilledPaths}
use Rattle.ppm_gaps.proofs.laws.codes_without_flaws_are_restartable.Goals as goal

-- by the laws on filled paths
pub returns : goal.returns
returns c = λ code free filled.
    let paths : HasFilledPaths code = record { free = free; filled = filled } in
    record {
      paths = paths;
      ordered = λ words place. (c.filled_paths_are_filled.ensures code paths words place).0;
      filled = λ words place. (c.filled_paths_are_filled.ensures code paths words place).1;
      invisible = c.faults_of_filled_paths_are_invisible.ensures code paths;
    }
