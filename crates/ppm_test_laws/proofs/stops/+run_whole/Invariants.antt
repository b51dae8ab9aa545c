use Rattle.std.proofs.Common.{length}
use Rattle.ppm_test_laws.proofs.stops.+run_whole.Given as goal

-- the instructions that are left
abbrev pub decreases-run_whole : goal.decreases-run_whole
decreases-run_whole l = length l.rest.now
