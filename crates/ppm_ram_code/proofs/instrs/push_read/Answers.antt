use Rattle.std.proofs.Common.{◌∷◌}
use Rattle.ppm_code.specs.declared.instr.Instr.TheVariants as instr
use Rattle.ppm_ram_code.specs.Code.{register}
use Rattle.ppm_ram_code.proofs.Growing.{at_value}
use Rattle.ppm_ram_code.proofs.instrs.push_read.Goals as goal

pub returns : goal.returns
returns c = at_value (λ n rest. instr.LoadSlot (register c.args.to_number) n ∷ rest) _ _ c.slot_of.ensures c.in_ok-push_load.ensures
