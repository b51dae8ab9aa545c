use Rattle.std.proofs.Common.{length}
use Rattle.ppm_test_laws.proofs.stops.+run_with_stops.Given as goal

-- the stops that are left
abbrev pub decreases-run_with_stops : goal.decreases-run_with_stops
decreases-run_with_stops l = length l.stops.now
