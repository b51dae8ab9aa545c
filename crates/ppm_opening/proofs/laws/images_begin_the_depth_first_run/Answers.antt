use Rattle.ppm_opening.proofs.Theorem.{begin_the_run}
use Rattle.ppm_opening.proofs.ShownLemmas.{shows_the_run}
use Rattle.ppm_opening.proofs.laws.images_begin_the_depth_first_run.Goals as goal

pub returns-clause-law : goal.returns-clause-law
returns-clause-law c = begin_the_run

pub returns-clause-shown : goal.returns-clause-shown
returns-clause-shown c = shows_the_run
