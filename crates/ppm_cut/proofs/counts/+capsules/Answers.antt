use Rattle.std.proofs.Common.{refl, ap, arith}
use Rattle.ppm_cut_code.specs.Numbers.{behind}
use Rattle.ppm_cut.specs.Counts.{own_count, own_count_in, hidden_count, hidden_count_in}
use Rattle.ppm_cut_bounds.proofs.Blocks.{block_ahead}
use Rattle.ppm_cut.proofs.Stmts.{if_is, while_is, split_is}
use Rattle.ppm_cut.proofs.counts.+capsules.Goals as goal

pub behind-end_of-first-requires : goal.behind-end_of-first-requires
behind-end_of-first-requires t c =
    let e = if_is c.args.statement.now c.in-If.field-0 c.in-If.block c.in-If.other c.deref.result.now c.in-If.other.items c.in-If.is c.deref.ensures.value refl in
    (omega (arith, ap own_count e, ap hidden_count e), omega (arith, ap own_count e))

pub behind-overflow_add-first : goal.behind-overflow_add-first
behind-overflow_add-first t c =
    let e = if_is c.args.statement.now c.in-If.field-0 c.in-If.block c.in-If.other c.deref.result.now c.in-If.other.items c.in-If.is c.deref.ensures.value refl in
    omega (arith, ap own_count e)

pub behind-end_of-requires : goal.behind-end_of-requires
behind-end_of-requires t c =
    let e = if_is c.args.statement.now c.in-If.field-0 c.in-If.block c.in-If.other c.deref.result.now c.deref-in-If.result.now c.in-If.is c.deref.ensures.value c.deref-in-If.ensures.value in
    (omega (arith, ap own_count e, ap hidden_count e), omega (arith, ap own_count e))

pub behind-overflow_add-result : goal.behind-overflow_add-result
behind-overflow_add-result t c =
    let e = if_is c.args.statement.now c.in-If.field-0 c.in-If.block c.in-If.other c.deref.result.now c.deref-in-If.result.now c.in-If.is c.deref.ensures.value c.deref-in-If.ensures.value in
    omega (arith, ap own_count e)

pub behind-returns-in-If-clause-within : goal.behind-returns-in-If-clause-within
behind-returns-in-If-clause-within t c =
    let e = if_is c.args.statement.now c.in-If.field-0 c.in-If.block c.in-If.other c.deref.result.now c.deref-in-If.result.now c.in-If.is c.deref.ensures.value c.deref-in-If.ensures.value in
    omega (arith, ap own_count e)

pub behind-returns-in-If-clause-value : goal.behind-returns-in-If-clause-value
behind-returns-in-If-clause-value t c =
    let e = if_is c.args.statement.now c.in-If.field-0 c.in-If.block c.in-If.other c.deref.result.now c.deref-in-If.result.now c.in-If.is c.deref.ensures.value c.deref-in-If.ensures.value in
    grind (arith, ap (λ s. behind s c.args.at) e)

pub behind-end_of-requires-in-While : goal.behind-end_of-requires-in-While
behind-end_of-requires-in-While t c =
    let e = while_is c.args.statement.now c.in-While.field-0 c.in-While.block c.deref-in-While.result.now c.in-While.is c.deref-in-While.ensures.value in
    (omega (arith, ap own_count e, ap hidden_count e), omega (arith, ap own_count e))

pub behind-overflow_add-result-in-While : goal.behind-overflow_add-result-in-While
behind-overflow_add-result-in-While t c =
    let e = while_is c.args.statement.now c.in-While.field-0 c.in-While.block c.deref-in-While.result.now c.in-While.is c.deref-in-While.ensures.value in
    omega (arith, ap own_count e)

pub behind-returns-in-While-clause-within : goal.behind-returns-in-While-clause-within
behind-returns-in-While-clause-within t c =
    let e = while_is c.args.statement.now c.in-While.field-0 c.in-While.block c.deref-in-While.result.now c.in-While.is c.deref-in-While.ensures.value in
    omega (arith, ap own_count e)

pub behind-returns-in-While-clause-value : goal.behind-returns-in-While-clause-value
behind-returns-in-While-clause-value t c =
    let e = while_is c.args.statement.now c.in-While.field-0 c.in-While.block c.deref-in-While.result.now c.in-While.is c.deref-in-While.ensures.value in
    grind (arith, ap (λ s. behind s c.args.at) e)

pub behind-end_of-requires-in-Split : goal.behind-end_of-requires-in-Split
behind-end_of-requires-in-Split t c =
    let e = split_is c.args.statement.now c.in-Split.field-0 c.in-Split.field-1 c.in-Split.field-2 c.in-Split.field-3 c.in-Split.field-4 c.in-Split.block c.deref-in-Split.result.now c.in-Split.is c.deref-in-Split.ensures.value in
    (omega (arith, ap own_count e, ap hidden_count e), omega (arith, ap own_count e))

pub behind-overflow_add-result-in-Split : goal.behind-overflow_add-result-in-Split
behind-overflow_add-result-in-Split t c =
    let e = split_is c.args.statement.now c.in-Split.field-0 c.in-Split.field-1 c.in-Split.field-2 c.in-Split.field-3 c.in-Split.field-4 c.in-Split.block c.deref-in-Split.result.now c.in-Split.is c.deref-in-Split.ensures.value in
    omega (arith, ap own_count e)

pub behind-returns-in-Split-clause-within : goal.behind-returns-in-Split-clause-within
behind-returns-in-Split-clause-within t c =
    let e = split_is c.args.statement.now c.in-Split.field-0 c.in-Split.field-1 c.in-Split.field-2 c.in-Split.field-3 c.in-Split.field-4 c.in-Split.block c.deref-in-Split.result.now c.in-Split.is c.deref-in-Split.ensures.value in
    omega (arith, ap own_count e)

pub behind-returns-in-Split-clause-value : goal.behind-returns-in-Split-clause-value
behind-returns-in-Split-clause-value t c =
    let e = split_is c.args.statement.now c.in-Split.field-0 c.in-Split.field-1 c.in-Split.field-2 c.in-Split.field-3 c.in-Split.field-4 c.in-Split.block c.deref-in-Split.result.now c.in-Split.is c.deref-in-Split.ensures.value in
    grind (arith, ap (λ s. behind s c.args.at) e)

pub end_of-behind-next-requires : goal.end_of-behind-next-requires
end_of-behind-next-requires t c =
    let e = block_ahead c.args.block.now c.loop-statement.statement-index c.statement-item.result c.loop-statement-test.true c.statement-item.is in
    (omega (arith, ap own_count_in e, ap hidden_count_in e), omega (arith, ap own_count_in e))
