use Rattle.ppm_explained.proofs.OrdersLemmas.{have_one_answer}
use Rattle.ppm_explained.proofs.laws.orders_have_one_answer.Goals as goal

-- from that of plans and schedules
pub returns : goal.returns
returns c = record { law = have_one_answer c.have_one_answer.ensures.law }
