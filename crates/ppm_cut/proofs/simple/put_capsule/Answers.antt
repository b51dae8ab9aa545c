use Rattle.std.proofs.Common.{◌≡◌, ◌+◌, suc, arith}
use Rattle.ppm_code.specs.declared.instr.Instr.TheVariants as instr
use Rattle.ppm_cut_code.specs.Layout.{register}
use Rattle.ppm_cut.proofs.Growing.{then, made, at_number}
use Rattle.ppm_cut.proofs.simple.put_capsule.Goals as goal

pub returns : goal.returns
returns c =
    let next : c.args.maker.now.home.spare + 1 ≡ suc c.args.maker.now.home.spare = omega arith in
    made c.new-body.ensures.items (then (at_number (λ n. instr.LoadSlot (register 0) n) _ _ c.slot.ensures c.in_ok-push_load.ensures)
    (then c.in_ok-push_load-2.ensures (then (at_number (λ n. instr.LoadSlot (register 2) n) _ _ next c.in_ok-push_load-3.ensures)
    (then c.in_ok-push_put.ensures c.in_ok-push_onward.ensures))))
