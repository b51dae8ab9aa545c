use Rattle.std.proofs.Common.{◌∙◌, sym, ap, arith}
use Rattle.ppm_tree.specs.Tree.{block_of}
use Rattle.ppm_cut_bounds.specs.Sought.{is_or_has_each, has_each}
use Rattle.ppm_tree.proofs.Blocks.{is_if, is_while, is_split}
use Rattle.ppm_cut_bounds.proofs.sought.+sought.Goals as goal

-- the block where the test holds has one
pub is_or_has_each-returns-then-has_each : goal.is_or_has_each-returns-then-has_each
is_or_has_each-returns-then-has_each t c =
    let e = is_if c.args.statement.now c.in-If.field-0 c.in-If.block c.in-If.other c.in-If.is in
    let h = c.has_each.ensures in
    let v = c.deref.ensures.value in
    let b = c.if-has_each.true in
    grind (arith, ap is_or_has_each e, ap has_each (ap block_of v))

-- it has none, and so the other block decides
pub is_or_has_each-returns-else-has_each : goal.is_or_has_each-returns-else-has_each
is_or_has_each-returns-else-has_each t c =
    let e = is_if c.args.statement.now c.in-If.field-0 c.in-If.block c.in-If.other c.in-If.is in
    let h = c.has_each.ensures in
    let g = c.has_each-in-If.ensures in
    let v = c.deref.ensures.value in
    let w = c.deref-in-If.ensures.value in
    let b = c.if-has_each.false in
    grind (arith, ap is_or_has_each e, ap has_each (ap block_of v), ap has_each (ap block_of w))

pub is_or_has_each-returns-in-While : goal.is_or_has_each-returns-in-While
is_or_has_each-returns-in-While t c =
    c.has_each-in-While.ensures ∙ ap has_each (ap block_of c.deref-in-While.ensures.value)
    ∙ sym (ap is_or_has_each (is_while c.args.statement.now c.in-While.field-0 c.in-While.block c.in-While.is))

pub is_or_has_each-returns-in-Split : goal.is_or_has_each-returns-in-Split
is_or_has_each-returns-in-Split t c =
    c.has_each-in-Split.ensures ∙ ap has_each (ap block_of c.deref-in-Split.ensures.value)
    ∙ sym (ap is_or_has_each (is_split c.args.statement.now c.in-Split.field-0 c.in-Split.field-1 c.in-Split.field-2 c.in-Split.field-3 c.in-Split.field-4 c.in-Split.block c.in-Split.is))
