use Rattle.std.proofs.Common.{arith}
use Rattle.ppm_plan.proofs.ActLemmas.{acts_step, left_step}
use Rattle.ppm_plan.proofs.schedule.acts_in.Goals as goal

-- an item stands for less than 2^32 acts
pub overflow_add-count : goal.overflow_add-count
overflow_add-count c = omega (arith, c.loop-left.invariant.1, c.in-len1-up.len_at_least, c.times_of-count.ensures.bound)

-- one item more
pub loop-left-preserved : goal.loop-left-preserved
loop-left-preserved c = (
  acts_step c.loop-left.count c.times_of-count.result _ c.loop-left.left.now _ c.in-len1-up.len_at_least c.times_of-count.ensures.value
      c.loop-left.invariant.0,
  left_step c.loop-left.count c.times_of-count.result c.loop-left.left.now c.in-len1-up.len_at_least c.times_of-count.ensures.bound c.loop-left.invariant.1,
)
