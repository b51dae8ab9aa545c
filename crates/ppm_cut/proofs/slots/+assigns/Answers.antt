use Rattle.std.proofs.Common.{◌∙◌, sym, ap, arith}
use Rattle.ppm_tree.specs.Tree.{block_of}
use Rattle.ppm_cut_code.specs.Slots.{assigns, has_assignment}
use Rattle.ppm_tree.proofs.Blocks.{is_if, is_while, is_split}
use Rattle.ppm_cut.proofs.slots.+assigns.Goals as goal

-- the block where the test holds assigns
pub assigns-returns-then-has_assignment : goal.assigns-returns-then-has_assignment
assigns-returns-then-has_assignment t c =
    let e = is_if c.args.statement.now c.in-If.field-0 c.in-If.block c.in-If.other c.in-If.is in
    let h = c.has_assignment.ensures in
    let v = c.deref.ensures.value in
    let b = c.if-has_assignment.true in
    grind (arith, ap assigns e, ap has_assignment (ap block_of v))

-- it doesn't, and so the other block decides
pub assigns-returns-else-has_assignment : goal.assigns-returns-else-has_assignment
assigns-returns-else-has_assignment t c =
    let e = is_if c.args.statement.now c.in-If.field-0 c.in-If.block c.in-If.other c.in-If.is in
    let h = c.has_assignment.ensures in
    let g = c.has_assignment-in-If.ensures in
    let v = c.deref.ensures.value in
    let w = c.deref-in-If.ensures.value in
    let b = c.if-has_assignment.false in
    grind (arith, ap assigns e, ap has_assignment (ap block_of v), ap has_assignment (ap block_of w))

pub assigns-returns-in-While : goal.assigns-returns-in-While
assigns-returns-in-While t c =
    c.has_assignment-in-While.ensures ∙ ap has_assignment (ap block_of c.deref-in-While.ensures.value)
    ∙ sym (ap assigns (is_while c.args.statement.now c.in-While.field-0 c.in-While.block c.in-While.is))

pub assigns-returns-in-Split : goal.assigns-returns-in-Split
assigns-returns-in-Split t c =
    c.has_assignment-in-Split.ensures ∙ ap has_assignment (ap block_of c.deref-in-Split.ensures.value)
    ∙ sym (ap assigns (is_split c.args.statement.now c.in-Split.field-0 c.in-Split.field-1 c.in-Split.field-2 c.in-Split.field-3 c.in-Split.field-4 c.in-Split.block c.in-Split.is))
