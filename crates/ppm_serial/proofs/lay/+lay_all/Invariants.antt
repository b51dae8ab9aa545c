-- Each call has one procedure less.
use Rattle.std.proofs.Common.{length}
use Rattle.ppm_serial.proofs.lay.+lay_all.Given as goal

abbrev pub decreases-lay_all : goal.decreases-lay_all
decreases-lay_all l = length l.left.now
