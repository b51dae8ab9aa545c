-- Each call has one parameter less.
use Rattle.std.proofs.Common.{length}
use Rattle.ppm_by_name.proofs.entering.+pass_all.Given as goal

abbrev pub decreases-pass_all : goal.decreases-pass_all
decreases-pass_all l = length l.parameters.now
