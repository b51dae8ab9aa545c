use Rattle.ppm_cut.proofs.Growing.{made}
use Rattle.ppm_cut.proofs.simple.onward.Goals as goal

pub returns : goal.returns
returns c = made c.new-body.ensures.items c.in_ok-push_onward.ensures
