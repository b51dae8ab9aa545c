use Rattle.ppm_ownership.proofs.Theorem.{either_order}
use Rattle.ppm_ownership.proofs.laws.run_in_either_order.Goals as goal

pub returns : goal.returns
returns c = record { law = either_order }
