use Rattle.std.proofs.Common.{◌↔◌, IsTrue, List, subst}
use Rattle.ppm_code.specs.declared.register.Register.{Register}
use Rattle.ppm_gaps.specs.Hanging.{HasOperandIn}
use Rattle.ppm_gaps.proofs.hanging.has_trapping.Goals as goal

-- the registers are those by which the instruction traps
pub returns : goal.returns
returns c = subst (λ (rs : List Register). IsTrue c.has_one.result ↔ HasOperandIn c.args.words rs) c.trapping_by.ensures c.has_one.ensures
