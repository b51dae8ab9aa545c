use Rattle.std.proofs.Common.{arith}
use Rattle.ppm_sweep.proofs.meeting.has_values.Goals as goal

-- there are fewer than 2^32 arrays
pub overflow_add-number : goal.overflow_add-number
overflow_add-number c = omega (arith, c.requires.few, c.loop-left.invariant.1, c.in-len1-up.len_at_least)
