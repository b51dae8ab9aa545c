use Rattle.std.proofs.Common.{◌≡◌, ◌+◌, sym, ap, subst, ◌∙◌, arith}
use Rattle.std.specs.Prelude.{IfOk}
use Rattle.ppm_tree.specs.Tree.{If, While, Split, block_of, expression_of}
use Rattle.ppm_cut_bounds.specs.Slots.{most_within}
use Rattle.ppm_tree.proofs.Blocks.{is_if, is_while, is_split}
use Rattle.ppm_excess.proofs.slots.+most.Goals as goal

-- the greater of both blocks
pub most_within-returns-in_ok-second-in-If : goal.most_within-returns-in_ok-second-in-If
most_within-returns-in_ok-second-in-If t c =
    let e = is_if c.args.statement.now c.in-If.field-0 c.in-If.block c.in-If.other c.in-If.is
    ∙ ap (λ xs. If (expression_of c.in-If.field-0) (block_of xs) (block_of c.in-If.other.items)) (sym c.deref.ensures.value)
    ∙ ap (λ xs. If (expression_of c.in-If.field-0) (block_of c.deref.result.now) (block_of xs)) (sym c.deref-in-If.ensures.value) in
    let a = c.in_ok-first-in-If.ensures in
    let b = c.in_ok-second-in-If.ensures in
    grind (arith, ap most_within e, a, b)

pub most_within-returns-in-While : goal.most_within-returns-in-While
most_within-returns-in-While t c =
    let e = is_while c.args.statement.now c.in-While.field-0 c.in-While.block c.in-While.is
    ∙ ap (λ xs. While (expression_of c.in-While.field-0) (block_of xs)) (sym c.deref-in-While.ensures.value) in
    subst (λ m. IfOk c.most_in_force-in-While.result (λ n. n ≡ m)) (sym (ap most_within e)) c.most_in_force-in-While.ensures

-- the two parts, and the block
pub most_within-returns-in_ok-inner-in-Split : goal.most_within-returns-in_ok-inner-in-Split
most_within-returns-in_ok-inner-in-Split t c =
    let e = is_split c.args.statement.now c.in-Split.field-0 c.in-Split.field-1 c.in-Split.field-2 c.in-Split.field-3 c.in-Split.field-4 c.in-Split.block c.in-Split.is
    ∙ ap (λ xs. Split c.in-Split.field-0 c.in-Split.field-1 (expression_of c.in-Split.field-2) c.in-Split.field-3 c.in-Split.field-4 (block_of xs)) (sym c.deref-in-Split.ensures.value) in
    subst (λ m. IfOk c.plus.result (λ n. n ≡ m)) (ap (λ k. 2 + k) c.in_ok-inner-in-Split.ensures ∙ sym (ap most_within e)) c.plus.ensures
