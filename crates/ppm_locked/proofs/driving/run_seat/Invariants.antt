use Rattle.std.proofs.Common.{◌≡◌}
use Rattle.ppm_locked.proofs.driving.run_seat.Given as goal

-- it is the seat of one processor
abbrev pub invariant-loop : goal.invariant-loop
invariant-loop g l = l.seat.processor ≡ l.fn.seat.processor
