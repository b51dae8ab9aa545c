use Rattle.std.proofs.Common.{length}
use Rattle.ppm_test_laws.proofs.stops.+run_until.Given as goal

-- the instructions that are left
abbrev pub decreases-run_until : goal.decreases-run_until
decreases-run_until l = length l.rest.now
