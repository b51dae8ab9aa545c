use Rattle.std.proofs.Common.{◌+◌, ◌∷◌}
use Rattle.ppm_code.specs.declared.act.End.TheVariants as ends
use Rattle.ppm_code.specs.declared.instr.Instr.TheVariants as instr
use Rattle.ppm_ram_code.specs.declared.bank.Bank.{Bank}
use Rattle.ppm_ram_code.specs.Code.{capsule_at, stored_in}
use Rattle.ppm_ram_code.proofs.Growing.{then, made, at_value}
use Rattle.ppm_ram_code.proofs.code.register_capsule.Goals as goal

pub returns : goal.returns
returns c =
    made c.new-body.ensures.items (then c.in_ok-push_reads.ensures (then c.in_ok-push.ensures
    (at_value (λ (b : Bank) rest. stored_in b (instr.Ends (ends.Next (capsule_at (c.args.number + 1) b)) ∷ rest)) _ _ c.other.ensures c.in_ok-push_rest.ensures)))
