use Rattle.ppm_ram_code.proofs.Growing.{one}
use Rattle.ppm_ram_code.proofs.instrs.push.Goals as goal

pub returns : goal.returns
returns c = one _ _ _ c.in_ok-push.ensures.items
