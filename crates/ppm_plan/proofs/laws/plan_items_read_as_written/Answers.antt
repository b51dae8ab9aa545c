use Rattle.ppm_plan.proofs.PlanItemLemmas.{item_read, item_back}
use Rattle.ppm_plan.proofs.laws.plan_items_read_as_written.Goals as goal

-- both ways
pub returns : goal.returns
returns c = record { law = record { read = item_read; fits = λ piece i h. (item_back piece i h).0; written = λ piece i h. (item_back piece i h).1 } }
