-- Each call has one less.
use Rattle.std.proofs.Common.{length}
use Rattle.ppm_by_name.proofs.starting.+whole.Given as goal

abbrev pub decreases-whole : goal.decreases-whole
decreases-whole l = length l.arrays.now
