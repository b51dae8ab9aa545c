use Rattle.ppm_ram_code.proofs.Growing.{made}
use Rattle.ppm_ram_code.proofs.code.jump_capsule.Goals as goal

pub returns : goal.returns
returns c = made c.new-body.ensures.items c.in_ok-push_onward.ensures
