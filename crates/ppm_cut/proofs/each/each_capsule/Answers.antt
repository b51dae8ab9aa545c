use Rattle.std.proofs.Common.{◌≡◌, ◌+◌, ◌++◌, suc, length, arith, ap, ◌∙◌}
use Rattle.ppm_code.specs.declared.instr.Instr.TheVariants as instr
use Rattle.ppm_tree.specs.Tree.{block_of}
use Rattle.ppm_cut_code.specs.Layout.{caught, register}
use Rattle.ppm_cut_code.specs.Slots.{frame_words, hidden_slots}
use Rattle.ppm_cut_code.specs.Statements.{loads_code, stores_code}
use Rattle.ppm_cut.proofs.Growing.{then, made, at_number, at_place}
use Rattle.ppm_cut.proofs.Slotting.{caught_few}
use Rattle.ppm_cut.proofs.each.each_capsule.Goals as goal

pub len-count-requires : goal.len-count-requires
len-count-requires c =
    let names = c.in_ok-push_caught.ensures ∙ ap (λ l. l ++ caught c.args.layout.now (block_of c.args.block.now)) c.new-names.ensures in
    let few = caught_few c.args.layout.now (block_of c.args.block.now) in
    omega (arith, few, ap length names)

pub hidden_slots-slots-requires-clause-few : goal.hidden_slots-slots-requires-clause-few
hidden_slots-slots-requires-clause-few c =
    let names = c.in_ok-push_caught.ensures ∙ ap (λ l. l ++ caught c.args.layout.now (block_of c.args.block.now)) c.new-names.ensures in
    let few = caught_few c.args.layout.now (block_of c.args.block.now) in
    omega (arith, few, ap length names, c.len-count.ensures)

pub returns : goal.returns
returns c =
    let block = block_of c.args.block.now in
    let names = c.in_ok-push_caught.ensures ∙ ap (λ l. l ++ caught c.args.layout.now block) c.new-names.ensures in
    let count = c.len-count.ensures ∙ ap length names in
    let room = c.frame_words.ensures ∙ ap frame_words (c.hidden_slots-slots.ensures.value ∙ ap (λ n. hidden_slots n block) count) in
    let more : c.len-count.result + 2 ≡ suc (suc (length (caught c.args.layout.now block))) = omega (arith, count) in
    made c.new-body.ensures.items (then (at_number (λ n. instr.Room n) _ _ room c.in_ok-push_room.ensures)
    (then (at_number (λ n. instr.LoadSlot (register 0) n) _ _ c.slot.ensures c.in_ok-push_load.ensures) (then c.in_ok-push_const.ensures
    (then (at_place (λ l. loads_code c.args.layout.now l 2) _ _ names c.in_ok-push_name_loads.ensures)
    (then (at_place (stores_code 6 0) _ _ more c.in_ok-push_stores.ensures) c.in_ok-push.ensures)))))
