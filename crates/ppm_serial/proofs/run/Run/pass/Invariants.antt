use Rattle.std.proofs.Common.{◌≡◌, length}
use Rattle.ppm_serial.specs.Machine.{passing}
use Rattle.ppm_serial.proofs.run.Run.pass.Given as goal

-- what is left goes on as the whole does
abbrev pub invariant-loop-left : goal.invariant-loop-left
invariant-loop-left l = passing l.self.frame l.self.store l.left l.callee ≡ passing l.self.frame l.self.store l.passed l.initial.callee

abbrev pub decreases-loop-left : goal.decreases-loop-left
decreases-loop-left l = length l.left
