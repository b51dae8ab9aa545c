-- Each call has one parameter less.
use Rattle.std.proofs.Common.{length}
use Rattle.ppm_serial.proofs.names.Names.+parameters.Given as goal

abbrev pub decreases-parameters : goal.decreases-parameters
decreases-parameters l = length l.parameters.now
