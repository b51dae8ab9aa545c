use Rattle.std.proofs.Common.{◌∙◌, ap, cond, Some}
use Rattle.std.specs.BTreeMap.{get}
use Rattle.std.specs.Ordering.{is_eq}
use Rattle.ppm_plan.specs.Tables.{by_turn, graver}
use Rattle.ppm_plan.proofs.TableLemmas.{item_put}
use Rattle.ppm_plan.proofs.fault_table.put.Goals as goal

-- the item's turn has the graver fault, and the others keep theirs
pub returns : goal.returns
returns c processor turn =
    let told = c.graver.ensures ∙ ap (λ met. graver met c.args.item.fault) c.look_up-met.ensures in
    item_put (get by_turn c.insert.new.self) (get by_turn c.args.table.now) c.args.item
    (λ k. c.in_ok-insert.ensures.updates.0 k
    ∙ ap (λ f. cond (is_eq (by_turn (c.args.item.processor, c.args.item.turn) k)) (Some f) (get by_turn c.args.table.now k)) told)
    processor turn
