use Rattle.ppm_driver.proofs.CompleteOfCode.{runs_of_code_complete}
use Rattle.ppm_driver.proofs.complete.runs_of_code_complete.Goals as goal

-- from the law of runs
pub returns : goal.returns
returns c = record { law = runs_of_code_complete c.runs_are_as_code.ensures.law }
