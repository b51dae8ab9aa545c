use Rattle.ppm_ram_code.proofs.Growing.{then, made}
use Rattle.ppm_ram_code.proofs.code.store_capsule.Goals as goal

pub returns : goal.returns
returns c =
    made c.new-body.ensures.items (then c.in_ok-push_load.ensures (then c.in_ok-push_read.ensures (then c.in_ok-push_read-2.ensures
    (then c.in_ok-push_put.ensures c.in_ok-push_onward.ensures))))
