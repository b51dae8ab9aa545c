-- The law on filled paths.
use Rattle.ppm_test_laws.specs.Clears.{clearing}
use Rattle.ppm_test_laws.proofs.clears.faults_of_clearing_are_invisible.Goals as goal

pub returns : goal.returns
returns c = λ words root arrays. c.faults_of_filled_paths_are_invisible.ensures clearing c.clearing_meets_both.ensures.filled words root arrays
    (c.clearing_meets_both.ensures.stands words root arrays)
