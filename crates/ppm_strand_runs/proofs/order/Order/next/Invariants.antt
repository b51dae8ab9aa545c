use Rattle.std.proofs.Common.{◌≡◌, length}
use Rattle.ppm_strand_runs.specs.Order.{left_of}
use Rattle.ppm_strand_runs.proofs.order.Order.next.Given as goal

-- the turns that are left are the same
abbrev pub invariant-loop-times : goal.invariant-loop-times
invariant-loop-times l = left_of l.turn l.times l.left ≡ left_of l.self.turn l.self.times l.self.items.now

abbrev pub decreases-loop-times : goal.decreases-loop-times
decreases-loop-times l = length l.left
