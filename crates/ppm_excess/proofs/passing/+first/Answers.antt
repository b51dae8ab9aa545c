use Rattle.std.proofs.Common.{◌≡◌, sym, ap, subst, ◌∙◌}
use Rattle.std.specs.Prelude.{IfOk}
use Rattle.ppm_tree.specs.Tree.{If, While, Split, block_of, expression_of}
use Rattle.ppm_tree.proofs.Blocks.{is_if, is_while, is_split, is_each}
use Rattle.ppm_excess.specs.Excess.{bound_of, first_of, first_in, first_within, past_at}
use Rattle.ppm_excess.proofs.passing.+first.Goals as goal

-- the first of the one block, then that of the other
pub first_within-returns-in_ok-fails-in-If : goal.first_within-returns-in_ok-fails-in-If
first_within-returns-in_ok-fails-in-If t c =
    let e = is_if c.args.statement.now c.in-If.field-0 c.in-If.block c.in-If.other c.in-If.is
    ∙ ap (λ xs. If (expression_of c.in-If.field-0) (block_of xs) (block_of c.in-If.other.items)) (sym c.deref.ensures.value)
    ∙ ap (λ xs. If (expression_of c.in-If.field-0) (block_of c.deref.result.now) (block_of xs)) (sym c.deref-in-If.ensures.value) in
    let b = bound_of c.args.counted in
    c.earlier.ensures ∙ ap (λ x. first_of x c.in_ok-fails-in-If.fails) c.in_ok-holds-in-If.ensures
    ∙ ap (first_of (first_in b (block_of c.deref.result.now))) c.in_ok-fails-in-If.ensures ∙ sym (ap (first_within b) e)

pub first_within-returns-in-While : goal.first_within-returns-in-While
first_within-returns-in-While t c =
    let e = is_while c.args.statement.now c.in-While.field-0 c.in-While.block c.in-While.is
    ∙ ap (λ xs. While (expression_of c.in-While.field-0) (block_of xs)) (sym c.deref-in-While.ensures.value) in
    subst (λ m. IfOk c.first_in-in-While.result (λ x. x ≡ m)) (sym (ap (first_within (bound_of c.args.counted)) e)) c.first_in-in-While.ensures

pub first_within-returns-in-Split : goal.first_within-returns-in-Split
first_within-returns-in-Split t c =
    let e = is_split c.args.statement.now c.in-Split.field-0 c.in-Split.field-1 c.in-Split.field-2 c.in-Split.field-3 c.in-Split.field-4 c.in-Split.block c.in-Split.is
    ∙ ap (λ xs. Split c.in-Split.field-0 c.in-Split.field-1 (expression_of c.in-Split.field-2) c.in-Split.field-3 c.in-Split.field-4 (block_of xs)) (sym c.deref-in-Split.ensures.value) in
    subst (λ m. IfOk c.first_in-in-Split.result (λ x. x ≡ m)) (sym (ap (first_within (bound_of c.args.counted)) e)) c.first_in-in-Split.ensures

-- the `each` itself, then its block
pub first_within-returns-in_ok-inner-in-Each : goal.first_within-returns-in_ok-inner-in-Each
first_within-returns-in_ok-inner-in-Each t c =
    let start = is_each c.args.statement.now c.in-Each.index c.in-Each.part c.in-Each.field-2 c.in-Each.block c.in-Each.is in
    let b = bound_of c.args.counted in
    c.earlier-in-Each.ensures
    ∙ ap (λ x. first_of x c.in_ok-inner-in-Each.inner)
    (c.in_ok-own-in-Each.ensures ∙ ap (λ xs. past_at b c.in-Each.index c.in-Each.part (block_of xs)) c.deref-in-Each.ensures.value)
    ∙ ap (first_of (past_at b c.in-Each.index c.in-Each.part (block_of c.in-Each.block.items)))
    (c.in_ok-inner-in-Each.ensures ∙ ap (λ xs. first_in b (block_of xs)) c.deref-in-Each-2.ensures.value)
    ∙ sym (ap (first_within b) start)
