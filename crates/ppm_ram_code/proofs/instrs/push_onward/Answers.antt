use Rattle.std.proofs.Common.{◌∷◌}
use Rattle.ppm_code.specs.declared.act.End.TheVariants as ends
use Rattle.ppm_code.specs.declared.instr.Instr.TheVariants as instr
use Rattle.ppm_ram_code.proofs.Growing.{at_value}
use Rattle.ppm_ram_code.proofs.instrs.push_onward.Goals as goal

pub returns : goal.returns
returns c = at_value (λ n rest. instr.Ends (ends.Next n) ∷ rest) _ _ c.capsule_at.ensures c.in_ok-push_next.ensures
