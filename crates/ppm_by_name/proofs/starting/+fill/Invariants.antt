-- Each call has one less.
use Rattle.std.proofs.Common.{length}
use Rattle.ppm_by_name.proofs.starting.+fill.Given as goal

abbrev pub decreases-fill : goal.decreases-fill
decreases-fill l = length l.arrays.now
