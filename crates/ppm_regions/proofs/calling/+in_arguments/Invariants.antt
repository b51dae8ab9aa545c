use Rattle.std.proofs.Common.{length}
use Rattle.ppm_regions.proofs.calling.+in_arguments.Given as goal

abbrev pub decreases-in_arguments : goal.decreases-in_arguments
decreases-in_arguments l = length l.arguments.now
