use Rattle.std.proofs.Common.{◌≡◌, ◌+◌, suc, arith}
use Rattle.ppm_code.specs.declared.instr.Instr.TheVariants as instr
use Rattle.ppm_cut_code.specs.Layout.{register}
use Rattle.ppm_cut.proofs.Growing.{then, made, at_number}
use Rattle.std.proofs.Common.{length}
use Rattle.ppm_cut.proofs.simple.split_capsule.Goals as goal

pub returns : goal.returns
returns c =
    let next : c.len-free.result + 1 ≡ suc (length c.args.layout.now) = omega (arith, c.len-free.ensures) in
    made c.new-body.ensures.items (then c.in_ok-push_expression.ensures
    (then (at_number (λ n. instr.LoadSlot (register 1) n) _ _ c.slot.ensures c.in_ok-push_load.ensures)
    (then c.in_ok-push_cut_left.ensures (then c.in_ok-push_cut_right.ensures
    (then (at_number (λ n. instr.StoreCur n (register 2)) _ _ c.len-free.ensures c.in_ok-push_store.ensures)
    (then (at_number (λ n. instr.StoreCur n (register 3)) _ _ next c.in_ok-push_store-2.ensures) c.in_ok-push_onward.ensures))))))
