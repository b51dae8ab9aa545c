use Rattle.std.proofs.Common.{◌≡◌, ◌+◌, suc, arith}
use Rattle.ppm_code.specs.declared.act.End.TheVariants as ends
use Rattle.ppm_code.specs.declared.instr.Instr.TheVariants as instr
use Rattle.ppm_cut.proofs.Growing.{then, made, at_number, at_place}
use Rattle.std.specs.Prelude.{None}
use Rattle.ppm_cut_code.specs.Slots.{frame_words}
use Rattle.ppm_cut.specs.Growth.{half_code}
use Rattle.ppm_cut.proofs.each.halving_capsule.Goals as goal

pub returns : goal.returns
returns c =
    let two : c.args.numbers.capsule + 2 ≡ suc (suc c.args.numbers.capsule) = omega arith in
    let right : c.frame_words.result + 11 ≡ 11 + frame_words c.args.slots = omega (arith, c.frame_words.ensures) in
    made c.new-body.ensures.items (then (at_number (λ n. instr.Room n) _ _ c.fork_words.ensures c.in_ok-push_room.ensures)
    (then c.in_ok-push_halves.ensures (then c.in_ok-push_loads.ensures (then c.in_ok-push_half.ensures
    (then (at_place (λ n. half_code n 3 5 c.args.names) _ _ right c.in_ok-push_half-2.ensures)
    (at_number (λ n. instr.Ends (ends.Fork c.args.numbers.hidden c.args.numbers.hidden n None None)) _ _ two c.in_ok-push.ensures))))))
