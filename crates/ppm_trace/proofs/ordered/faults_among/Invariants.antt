use Rattle.std.proofs.Common.{◌≡◌, ◌+◌, ◌≤◌, length}
use Rattle.ppm_following.specs.OrderedFaults.{ordered_faults}
use Rattle.ppm_trace.proofs.ordered.faults_among.Given as goal

-- the faults so far, and those that are left
abbrev pub invariant-loop-left : goal.invariant-loop-left
invariant-loop-left l = (l.count + ordered_faults l.left ≡ ordered_faults l.items) × (l.count + length l.left ≤ length l.items)

abbrev pub decreases-loop-left : goal.decreases-loop-left
decreases-loop-left l = length l.left
