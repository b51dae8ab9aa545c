use Rattle.std.proofs.Common.{◌∙◌, sym, ap, arith}
use Rattle.ppm_tree.specs.Tree.{block_of}
use Rattle.ppm_cut_bounds.specs.Slots.{puts, has_put}
use Rattle.ppm_tree.proofs.Blocks.{is_if, is_while, is_split}
use Rattle.ppm_cut_bounds.proofs.slots.+puts.Goals as goal

-- the block where the test holds assigns
pub puts-returns-then-has_put : goal.puts-returns-then-has_put
puts-returns-then-has_put t c =
    let e = is_if c.args.statement.now c.in-If.field-0 c.in-If.block c.in-If.other c.in-If.is in
    let h = c.has_put.ensures in
    let v = c.deref.ensures.value in
    let b = c.if-has_put.true in
    grind (arith, ap puts e, ap has_put (ap block_of v))

-- it doesn't, and so the other block decides
pub puts-returns-else-has_put : goal.puts-returns-else-has_put
puts-returns-else-has_put t c =
    let e = is_if c.args.statement.now c.in-If.field-0 c.in-If.block c.in-If.other c.in-If.is in
    let h = c.has_put.ensures in
    let g = c.has_put-in-If.ensures in
    let v = c.deref.ensures.value in
    let w = c.deref-in-If.ensures.value in
    let b = c.if-has_put.false in
    grind (arith, ap puts e, ap has_put (ap block_of v), ap has_put (ap block_of w))

pub puts-returns-in-While : goal.puts-returns-in-While
puts-returns-in-While t c =
    c.has_put-in-While.ensures ∙ ap has_put (ap block_of c.deref-in-While.ensures.value)
    ∙ sym (ap puts (is_while c.args.statement.now c.in-While.field-0 c.in-While.block c.in-While.is))

pub puts-returns-in-Split : goal.puts-returns-in-Split
puts-returns-in-Split t c =
    c.has_put-in-Split.ensures ∙ ap has_put (ap block_of c.deref-in-Split.ensures.value)
    ∙ sym (ap puts (is_split c.args.statement.now c.in-Split.field-0 c.in-Split.field-1 c.in-Split.field-2 c.in-Split.field-3 c.in-Split.field-4 c.in-Split.block c.in-Split.is))
