use Rattle.ppm_ram_code.proofs.Growing.{then, made}
use Rattle.ppm_ram_code.proofs.code.test_capsule.Goals as goal

pub returns : goal.returns
returns c =
    made c.new-body.ensures.items (then c.in_ok-push_read.ensures (then c.in_ok-push_test.ensures (then c.in_ok-push_onward.ensures c.in_ok-push_onward-2.ensures)))
