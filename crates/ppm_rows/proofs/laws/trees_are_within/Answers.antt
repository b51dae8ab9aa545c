use Rattle.ppm_rows.proofs.ProgramsWithin.{within_limits}
use Rattle.ppm_rows.proofs.laws.trees_are_within.Goals as goal

-- by walking what is derived
pub returns : goal.returns
returns g = record { law = within_limits }
