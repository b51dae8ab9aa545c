use Rattle.std.proofs.Common.{refl, ap, arith}
use Rattle.ppm_cut_bounds.specs.Slots.{most_within}
use Rattle.ppm_cut.specs.Counts.{own_count, own_count_in, hidden_count, hidden_count_in}
use Rattle.ppm_cut_bounds.proofs.Blocks.{block_ahead}
use Rattle.ppm_cut.proofs.Stmts.{if_is, while_is, split_is}
use Rattle.ppm_cut.proofs.slots.+names.Goals as goal

pub most_within-most_in_force-first-requires : goal.most_within-most_in_force-first-requires
most_within-most_in_force-first-requires t c =
    let e = if_is c.args.statement.now c.in-If.field-0 c.in-If.block c.in-If.other c.deref.result.now c.in-If.other.items c.in-If.is c.deref.ensures.value refl in
    (omega (arith, ap own_count e, ap hidden_count e), omega (arith, ap own_count e))

pub most_within-most_in_force-requires : goal.most_within-most_in_force-requires
most_within-most_in_force-requires t c =
    let e = if_is c.args.statement.now c.in-If.field-0 c.in-If.block c.in-If.other c.deref.result.now c.deref-in-If.result.now c.in-If.is c.deref.ensures.value c.deref-in-If.ensures.value in
    (omega (arith, ap own_count e, ap hidden_count e), omega (arith, ap own_count e))

pub most_within-returns-in-If-clause-within : goal.most_within-returns-in-If-clause-within
most_within-returns-in-If-clause-within t c =
    let e = if_is c.args.statement.now c.in-If.field-0 c.in-If.block c.in-If.other c.deref.result.now c.deref-in-If.result.now c.in-If.is c.deref.ensures.value c.deref-in-If.ensures.value in
    omega (arith, ap own_count e)

pub most_within-returns-in-If-clause-value : goal.most_within-returns-in-If-clause-value
most_within-returns-in-If-clause-value t c =
    let e = if_is c.args.statement.now c.in-If.field-0 c.in-If.block c.in-If.other c.deref.result.now c.deref-in-If.result.now c.in-If.is c.deref.ensures.value c.deref-in-If.ensures.value in
    grind (arith, ap most_within e)

pub most_within-most_in_force-requires-in-While : goal.most_within-most_in_force-requires-in-While
most_within-most_in_force-requires-in-While t c =
    let e = while_is c.args.statement.now c.in-While.field-0 c.in-While.block c.deref-in-While.result.now c.in-While.is c.deref-in-While.ensures.value in
    (omega (arith, ap own_count e, ap hidden_count e), omega (arith, ap own_count e))

pub most_within-returns-in-While-clause-within : goal.most_within-returns-in-While-clause-within
most_within-returns-in-While-clause-within t c =
    let e = while_is c.args.statement.now c.in-While.field-0 c.in-While.block c.deref-in-While.result.now c.in-While.is c.deref-in-While.ensures.value in
    omega (arith, ap own_count e)

pub most_within-returns-in-While-clause-value : goal.most_within-returns-in-While-clause-value
most_within-returns-in-While-clause-value t c =
    let e = while_is c.args.statement.now c.in-While.field-0 c.in-While.block c.deref-in-While.result.now c.in-While.is c.deref-in-While.ensures.value in
    grind (arith, ap most_within e)

pub most_within-most_in_force-requires-in-Split : goal.most_within-most_in_force-requires-in-Split
most_within-most_in_force-requires-in-Split t c =
    let e = split_is c.args.statement.now c.in-Split.field-0 c.in-Split.field-1 c.in-Split.field-2 c.in-Split.field-3 c.in-Split.field-4 c.in-Split.block c.deref-in-Split.result.now c.in-Split.is c.deref-in-Split.ensures.value in
    (omega (arith, ap own_count e, ap hidden_count e), omega (arith, ap own_count e))

pub most_within-returns-in-Split-clause-within : goal.most_within-returns-in-Split-clause-within
most_within-returns-in-Split-clause-within t c =
    let e = split_is c.args.statement.now c.in-Split.field-0 c.in-Split.field-1 c.in-Split.field-2 c.in-Split.field-3 c.in-Split.field-4 c.in-Split.block c.deref-in-Split.result.now c.in-Split.is c.deref-in-Split.ensures.value in
    omega (arith, ap own_count e)

pub most_within-overflow_add-result : goal.most_within-overflow_add-result
most_within-overflow_add-result t c =
    let e = split_is c.args.statement.now c.in-Split.field-0 c.in-Split.field-1 c.in-Split.field-2 c.in-Split.field-3 c.in-Split.field-4 c.in-Split.block c.deref-in-Split.result.now c.in-Split.is c.deref-in-Split.ensures.value in
    omega (arith, ap own_count e)

pub most_within-returns-in-Split-clause-value : goal.most_within-returns-in-Split-clause-value
most_within-returns-in-Split-clause-value t c =
    let e = split_is c.args.statement.now c.in-Split.field-0 c.in-Split.field-1 c.in-Split.field-2 c.in-Split.field-3 c.in-Split.field-4 c.in-Split.block c.deref-in-Split.result.now c.in-Split.is c.deref-in-Split.ensures.value in
    grind (arith, ap most_within e)

pub most_in_force-most_within-requires : goal.most_in_force-most_within-requires
most_in_force-most_within-requires t c =
    let e = block_ahead c.args.block.now c.loop-statement.statement-index c.statement-item.result c.loop-statement-test.true c.statement-item.is in
    (omega (arith, ap own_count_in e, ap hidden_count_in e), omega (arith, ap own_count_in e))
