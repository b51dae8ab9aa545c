use Rattle.std.proofs.Common.{length}
use Rattle.ppm_regions.proofs.lending.+lend_all.Given as goal

abbrev pub decreases-lend_all : goal.decreases-lend_all
decreases-lend_all l = length l.arguments.now
