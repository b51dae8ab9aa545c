use Rattle.std.proofs.Common.{◌∙◌, ap}
use Rattle.ppm_table.specs.declared.processor.Processor.{Processor}
use Rattle.ppm_table.specs.Counting.{both_counts}
use Rattle.ppm_table.proofs.CountLemmas.{counts_step}
use Rattle.ppm_table.proofs.closing.total_counts.Goals as goal

-- a processor more
pub loop-left-preserved : goal.loop-left-preserved
loop-left-preserved c =
    counts_step c.loop-left.all c.and-all.result _ c.loop-left.left.now _ c.in-len1-up.len_at_least
    (c.and-all.ensures ∙ ap (λ (p : Processor). both_counts c.loop-left.all p.counts) c.first-item.is) c.loop-left.invariant
