use Rattle.ppm_code.specs.declared.instr.Instr.TheVariants as instr
use Rattle.ppm_cut_code.specs.Layout.{register}
use Rattle.ppm_cut.proofs.Growing.{then, made, at_number}
use Rattle.ppm_cut.proofs.simple.move_capsule.Goals as goal

pub returns : goal.returns
returns c =
    made c.new-body.ensures.items (then c.in_ok-push_load.ensures
    (then (at_number (λ n. instr.StoreCur n (register 0)) _ _ c.slot.ensures c.in_ok-push_store.ensures) c.in_ok-push_onward.ensures))
