use Rattle.ppm_sweep.proofs.TextLemmas.{written}
use Rattle.ppm_sweep.proofs.text.schedules_are_written.Goals as goal

-- item by item
pub returns : goal.returns
returns c = record { law = written }
