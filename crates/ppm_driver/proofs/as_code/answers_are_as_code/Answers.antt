use Rattle.ppm_driver.proofs.CodeRows.{answers_are_as_code}
use Rattle.ppm_driver.proofs.as_code.answers_are_as_code.Goals as goal

-- from the law of runs
pub returns : goal.returns
returns c = record { law = answers_are_as_code c.runs_are_as_code.ensures.law }
