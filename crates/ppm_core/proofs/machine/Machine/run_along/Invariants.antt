use Rattle.std.proofs.Common.{◌≡◌, ◌+◌, ◌≤◌, ◌^◌, length}
use Rattle.std.specs.List.{All}
use Rattle.ppm_core.specs.Acts.{IsTurnAmong}
use Rattle.ppm_core.specs.Machine.{seen}
use Rattle.ppm_core.specs.Situation.{run_on}
use Rattle.ppm_core.proofs.machine.Machine.run_along.Given as goal

-- the turns that are left make of it what all make of the first
abbrev pub invariant-loop-left : goal.invariant-loop-left
invariant-loop-left l =
    (run_on (seen l.self) l.left ≡ run_on (seen l.initial.self) l.turns) × All (IsTurnAmong l.self.shape.processors) l.left
    × (l.self.turns + length l.left ≤ 2 ^ 62)

abbrev pub decreases-loop-left : goal.decreases-loop-left
decreases-loop-left l = length l.left
