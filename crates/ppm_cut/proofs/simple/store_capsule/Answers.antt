use Rattle.ppm_cut.proofs.Growing.{then, made}
use Rattle.ppm_cut.proofs.simple.store_capsule.Goals as goal

pub returns : goal.returns
returns c = made c.new-body.ensures.items (then c.in_ok-push_expression.ensures (then c.in_ok-push_store.ensures c.in_ok-push_onward.ensures))
