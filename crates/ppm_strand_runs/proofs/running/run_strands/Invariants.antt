use Rattle.std.proofs.Common.{◌-◌}
use Rattle.ppm_strand_runs.specs.Order.{left_of}
use Rattle.ppm_strand_runs.proofs.RunLemmas.{Reached}
use Rattle.ppm_strand_runs.proofs.running.run_strands.Given as goal

-- the run so far, and what comes next
abbrev pub invariant-loop-order : goal.invariant-loop-order
invariant-loop-order l =
    Reached l.code l.input l.schedule l.turns l.run (left_of l.order.turn l.order.times l.order.items.now) l.order.next

abbrev pub decreases-loop-order : goal.decreases-loop-order
decreases-loop-order l = l.turns - l.run.turns
