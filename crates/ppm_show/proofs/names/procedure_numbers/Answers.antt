use Rattle.ppm_show.proofs.NameLemmas.{numbers_more}
use Rattle.ppm_show.proofs.names.procedure_numbers.Goals as goal

-- one number more
pub loop-number-preserved : goal.loop-number-preserved
loop-number-preserved c = numbers_more c.loop-number.number _ _ c.loop-number.invariant c.in_ok-push.ensures.items
