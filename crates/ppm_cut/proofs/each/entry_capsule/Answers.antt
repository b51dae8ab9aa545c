use Rattle.std.proofs.Common.{◌≡◌, ◌+◌, suc, arith}
use Rattle.ppm_code.specs.declared.act.End.TheVariants as ends
use Rattle.ppm_code.specs.declared.instr.Instr.TheVariants as instr
use Rattle.ppm_cut.proofs.Growing.{then, made, at_number}
use Rattle.ppm_cut.proofs.each.entry_capsule.Goals as goal

pub returns : goal.returns
returns c =
    let one : c.args.entry + 1 ≡ suc c.args.entry = omega arith in
    let three : c.args.entry + 3 ≡ suc (suc (suc c.args.entry)) = omega arith in
    made c.new-body.ensures.items (then c.in_ok-push_load.ensures (then c.in_ok-push_len.ensures (then c.in_ok-push_const.ensures (then c.in_ok-push_less.ensures (then c.in_ok-push_branch_zero.ensures (then (at_number (λ n. instr.Ends (ends.Next n)) _ _ one c.in_ok-push_onward.ensures) (then c.in_ok-push_branch_zero-2.ensures (then (at_number (λ n. instr.Ends (ends.Next n)) _ _ three c.in_ok-push_onward-2.ensures) c.in_ok-push_finish.ensures))))))))
