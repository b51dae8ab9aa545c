use Rattle.std.proofs.Common.{refl, ap, arith}
use Rattle.ppm_cut_code.specs.Numbers.{hidden_behind}
use Rattle.ppm_cut.specs.Counts.{own_count, own_count_in, hidden_count, hidden_count_in}
use Rattle.ppm_cut_bounds.proofs.Blocks.{block_ahead}
use Rattle.ppm_cut.proofs.Stmts.{if_is, while_is, split_is, each_is}
use Rattle.ppm_cut.proofs.counts.+hidden.Goals as goal

pub hidden_behind-hidden_behind_block-first-requires : goal.hidden_behind-hidden_behind_block-first-requires
hidden_behind-hidden_behind_block-first-requires t c =
    let e = if_is c.args.statement.now c.in-If.field-0 c.in-If.block c.in-If.other c.deref.result.now c.in-If.other.items c.in-If.is c.deref.ensures.value refl in
    (omega (arith, ap own_count e, ap hidden_count e), omega (arith, ap hidden_count e))

pub hidden_behind-hidden_behind_block-requires : goal.hidden_behind-hidden_behind_block-requires
hidden_behind-hidden_behind_block-requires t c =
    let e = if_is c.args.statement.now c.in-If.field-0 c.in-If.block c.in-If.other c.deref.result.now c.deref-in-If.result.now c.in-If.is c.deref.ensures.value c.deref-in-If.ensures.value in
    (omega (arith, ap own_count e, ap hidden_count e), omega (arith, ap hidden_count e))

pub hidden_behind-returns-in-If-clause-within : goal.hidden_behind-returns-in-If-clause-within
hidden_behind-returns-in-If-clause-within t c =
    let e = if_is c.args.statement.now c.in-If.field-0 c.in-If.block c.in-If.other c.deref.result.now c.deref-in-If.result.now c.in-If.is c.deref.ensures.value c.deref-in-If.ensures.value in
    omega (arith, ap hidden_count e)

pub hidden_behind-returns-in-If-clause-value : goal.hidden_behind-returns-in-If-clause-value
hidden_behind-returns-in-If-clause-value t c =
    let e = if_is c.args.statement.now c.in-If.field-0 c.in-If.block c.in-If.other c.deref.result.now c.deref-in-If.result.now c.in-If.is c.deref.ensures.value c.deref-in-If.ensures.value in
    grind (arith, ap (λ s. hidden_behind s c.args.hidden) e)

pub hidden_behind-hidden_behind_block-requires-in-While : goal.hidden_behind-hidden_behind_block-requires-in-While
hidden_behind-hidden_behind_block-requires-in-While t c =
    let e = while_is c.args.statement.now c.in-While.field-0 c.in-While.block c.deref-in-While.result.now c.in-While.is c.deref-in-While.ensures.value in
    (omega (arith, ap own_count e, ap hidden_count e), omega (arith, ap hidden_count e))

pub hidden_behind-returns-in-While-clause-within : goal.hidden_behind-returns-in-While-clause-within
hidden_behind-returns-in-While-clause-within t c =
    let e = while_is c.args.statement.now c.in-While.field-0 c.in-While.block c.deref-in-While.result.now c.in-While.is c.deref-in-While.ensures.value in
    omega (arith, ap hidden_count e)

pub hidden_behind-returns-in-While-clause-value : goal.hidden_behind-returns-in-While-clause-value
hidden_behind-returns-in-While-clause-value t c =
    let e = while_is c.args.statement.now c.in-While.field-0 c.in-While.block c.deref-in-While.result.now c.in-While.is c.deref-in-While.ensures.value in
    grind (arith, ap (λ s. hidden_behind s c.args.hidden) e)

pub hidden_behind-hidden_behind_block-requires-in-Split : goal.hidden_behind-hidden_behind_block-requires-in-Split
hidden_behind-hidden_behind_block-requires-in-Split t c =
    let e = split_is c.args.statement.now c.in-Split.field-0 c.in-Split.field-1 c.in-Split.field-2 c.in-Split.field-3 c.in-Split.field-4 c.in-Split.block c.deref-in-Split.result.now c.in-Split.is c.deref-in-Split.ensures.value in
    (omega (arith, ap own_count e, ap hidden_count e), omega (arith, ap hidden_count e))

pub hidden_behind-returns-in-Split-clause-within : goal.hidden_behind-returns-in-Split-clause-within
hidden_behind-returns-in-Split-clause-within t c =
    let e = split_is c.args.statement.now c.in-Split.field-0 c.in-Split.field-1 c.in-Split.field-2 c.in-Split.field-3 c.in-Split.field-4 c.in-Split.block c.deref-in-Split.result.now c.in-Split.is c.deref-in-Split.ensures.value in
    omega (arith, ap hidden_count e)

pub hidden_behind-returns-in-Split-clause-value : goal.hidden_behind-returns-in-Split-clause-value
hidden_behind-returns-in-Split-clause-value t c =
    let e = split_is c.args.statement.now c.in-Split.field-0 c.in-Split.field-1 c.in-Split.field-2 c.in-Split.field-3 c.in-Split.field-4 c.in-Split.block c.deref-in-Split.result.now c.in-Split.is c.deref-in-Split.ensures.value in
    grind (arith, ap (λ s. hidden_behind s c.args.hidden) e)

pub hidden_behind-hidden_behind_block-requires-in-Each : goal.hidden_behind-hidden_behind_block-requires-in-Each
hidden_behind-hidden_behind_block-requires-in-Each t c =
    let e = each_is c.args.statement.now c.in-Each.field-0 c.in-Each.field-1 c.in-Each.field-2 c.in-Each.block c.deref-in-Each.result.now c.in-Each.is c.deref-in-Each.ensures.value in
    (omega (arith, ap own_count e, ap hidden_count e), omega (arith, ap hidden_count e))

pub hidden_behind-returns-in-Each-clause-within : goal.hidden_behind-returns-in-Each-clause-within
hidden_behind-returns-in-Each-clause-within t c =
    let e = each_is c.args.statement.now c.in-Each.field-0 c.in-Each.field-1 c.in-Each.field-2 c.in-Each.block c.deref-in-Each.result.now c.in-Each.is c.deref-in-Each.ensures.value in
    omega (arith, ap hidden_count e)

pub hidden_behind-returns-in-Each-clause-value : goal.hidden_behind-returns-in-Each-clause-value
hidden_behind-returns-in-Each-clause-value t c =
    let e = each_is c.args.statement.now c.in-Each.field-0 c.in-Each.field-1 c.in-Each.field-2 c.in-Each.block c.deref-in-Each.result.now c.in-Each.is c.deref-in-Each.ensures.value in
    grind (arith, ap (λ s. hidden_behind s c.args.hidden) e)

pub hidden_behind_block-hidden_behind-next-requires : goal.hidden_behind_block-hidden_behind-next-requires
hidden_behind_block-hidden_behind-next-requires t c =
    let e = block_ahead c.args.block.now c.loop-statement.statement-index c.statement-item.result c.loop-statement-test.true c.statement-item.is in
    (omega (arith, ap own_count_in e, ap hidden_count_in e), omega (arith, ap hidden_count_in e))
