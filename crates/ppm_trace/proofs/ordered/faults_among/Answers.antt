use Rattle.ppm_trace.proofs.OrderedLemmas.{faults_step, items_step}
use Rattle.ppm_trace.proofs.ordered.faults_among.Goals as goal

-- one item more
pub loop-left-preserved : goal.loop-left-preserved
loop-left-preserved c = (
  faults_step c.loop-left.count c.one_of-count.result _ c.loop-left.left.now _ c.in-len1-up.len_at_least c.one_of-count.ensures.value
      c.loop-left.invariant.0,
  items_step c.loop-left.count c.one_of-count.result _ c.loop-left.left.now c.in-len1-up.len_at_least c.one_of-count.ensures.few
      c.loop-left.invariant.1,
)
