use Rattle.ppm_outcomes.proofs.MeantLemmas.{runs_are_as_programs}
use Rattle.ppm_outcomes.proofs.meant.runs_are_as_programs.Goals as goal

-- as of each sound code, since each program is as its code
pub returns : goal.returns
returns c = record { law = runs_are_as_programs c.programs_are_as_code.ensures.law c.runs_are_as_code.ensures.law }
