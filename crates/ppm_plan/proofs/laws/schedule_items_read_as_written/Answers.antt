use Rattle.ppm_plan.proofs.ScheduleItemLemmas.{item_read, item_back}
use Rattle.ppm_plan.proofs.laws.schedule_items_read_as_written.Goals as goal

-- both ways
pub returns : goal.returns
returns c = record { law = record { read = item_read; written = item_back } }
