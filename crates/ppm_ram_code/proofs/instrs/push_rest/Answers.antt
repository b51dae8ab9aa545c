use Rattle.ppm_ram_code.proofs.Growing.{then}
use Rattle.ppm_ram_code.proofs.instrs.push_rest.Goals as goal

pub returns : goal.returns
returns c = then c.in_ok-push_writes.ensures c.in_ok-push_onward.ensures
