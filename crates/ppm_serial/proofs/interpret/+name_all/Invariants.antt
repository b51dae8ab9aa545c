-- Each call has one less.
use Rattle.std.proofs.Common.{length}
use Rattle.ppm_serial.proofs.interpret.+name_all.Given as goal

abbrev pub decreases-name_all : goal.decreases-name_all
decreases-name_all l = length l.arrays.now
