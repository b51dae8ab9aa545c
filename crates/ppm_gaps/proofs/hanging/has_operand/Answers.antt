use Rattle.std.proofs.Common.{◌↔◌, IsTrue, List, subst}
use Rattle.ppm_code.specs.declared.register.Register.{Register}
use Rattle.ppm_gaps.specs.Hanging.{HasOperandIn}
use Rattle.ppm_gaps.proofs.hanging.has_operand.Goals as goal

-- the operands are those of the instruction
pub returns : goal.returns
returns c = subst (λ (rs : List Register). IsTrue c.has_one.result ↔ HasOperandIn c.args.words rs) c.read_by.ensures c.has_one.ensures
