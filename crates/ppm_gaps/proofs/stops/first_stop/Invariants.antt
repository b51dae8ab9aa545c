use Rattle.std.proofs.Common.{length, ◌-◌, ◌<◌, ℕ}
use Rattle.ppm_gaps.specs.Stops.{LeadsToStop}
use Rattle.ppm_gaps.proofs.stops.first_stop.Given as goal

-- no stop so far
abbrev pub invariant-loop-stop : goal.invariant-loop-stop
invariant-loop-stop l = (k : ℕ) → k < l.stop → LeadsToStop l.instrs l.class l.but l.from k → ⊥

abbrev pub decreases-loop-stop : goal.decreases-loop-stop
decreases-loop-stop l = length l.instrs - l.stop
