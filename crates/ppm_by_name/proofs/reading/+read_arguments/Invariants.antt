-- Each call has one parameter less.
use Rattle.std.proofs.Common.{length}
use Rattle.ppm_by_name.proofs.reading.+read_arguments.Given as goal

abbrev pub decreases-read_arguments : goal.decreases-read_arguments
decreases-read_arguments l = length l.parameters.now
