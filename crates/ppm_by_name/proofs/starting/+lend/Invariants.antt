-- Each call has one less.
use Rattle.std.proofs.Common.{length}
use Rattle.ppm_by_name.proofs.starting.+lend.Given as goal

abbrev pub decreases-lend : goal.decreases-lend
decreases-lend l = length l.parameters.now
