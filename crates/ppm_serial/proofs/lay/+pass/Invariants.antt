-- Each call has one parameter less.
use Rattle.std.proofs.Common.{length}
use Rattle.ppm_serial.proofs.lay.+pass.Given as goal

abbrev pub decreases-pass : goal.decreases-pass
decreases-pass l = length l.parameters.now
