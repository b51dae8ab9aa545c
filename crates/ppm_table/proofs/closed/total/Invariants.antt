use Rattle.std.proofs.Common.{◌≡◌, ◌+◌, length}
use Rattle.std.specs.List.{sum}
use Rattle.ppm_table.proofs.closed.total.Given as goal

-- the lengths so far, and those that are left
abbrev pub invariant-loop-left : goal.invariant-loop-left
invariant-loop-left l = l.total + sum l.left ≡ sum l.lengths

abbrev pub decreases-loop-left : goal.decreases-loop-left
decreases-loop-left l = length l.left
