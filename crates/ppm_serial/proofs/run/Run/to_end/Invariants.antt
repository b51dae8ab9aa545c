-- What the program means is still to be done, and each step leaves less.
use Rattle.ppm_tree.specs.Tree.{ProgramTree}
use Rattle.ppm_serial.specs.Laying.{IsLaid}
use Rattle.ppm_serial.specs.Running.{Serves, Starts, weight}
use Rattle.ppm_serial.proofs.run.Run.to_end.Given as goal

abbrev pub invariant-loop-self : goal.invariant-loop-self
invariant-loop-self l = (t : ProgramTree) → IsLaid t.procedures l.code → Starts t l.fn.self → Serves t l.code l.fn.self.left l.self

abbrev pub decreases-loop-self : goal.decreases-loop-self
decreases-loop-self l = weight l.self
