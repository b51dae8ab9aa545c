use Rattle.std.proofs.Common.{◌≡◌, sym, ap, subst, ◌∙◌, arith}
use Rattle.std.specs.Prelude.{IfOk}
use Rattle.ppm_tree.specs.Tree.{If, While, Split, Each, statement_of, block_of, expression_of}
use Rattle.ppm_tree.proofs.Blocks.{is_if, is_while, is_split, is_each}
use Rattle.ppm_cut_bounds.proofs.Sums.{need_if, need_while, need_split, need_each}
use Rattle.ppm_excess.proofs.capsules.+capsules.Goals as goal

-- the statement, and both blocks
pub at_statement-returns-in_ok-inner-in-If : goal.at_statement-returns-in_ok-inner-in-If
at_statement-returns-in_ok-inner-in-If t c =
    let e = is_if c.args.statement.now c.in-If.field-0 c.in-If.block c.in-If.other c.in-If.is
    ∙ ap (λ xs. If (expression_of c.in-If.field-0) (block_of xs) (block_of c.in-If.other.items)) (sym c.deref.ensures.value)
    ∙ ap (λ xs. If (expression_of c.in-If.field-0) (block_of c.deref.result.now) (block_of xs)) (sym c.deref-in-If.ensures.value) in
    let n = need_if (statement_of c.args.statement.now) _ _ _ e in
    subst (λ m. IfOk c.plus-in-If.result (λ k. k ≡ m))
    (omega (arith, n, c.in_ok-inner-in-If.ensures, c.in_ok-holds-in-If.ensures, c.in_ok-fails-in-If.ensures)) c.plus-in-If.ensures

-- the statement, and its block
pub at_statement-returns-in_ok-inner-in-While : goal.at_statement-returns-in_ok-inner-in-While
at_statement-returns-in_ok-inner-in-While t c =
    let e = is_while c.args.statement.now c.in-While.field-0 c.in-While.block c.in-While.is
    ∙ ap (λ xs. While (expression_of c.in-While.field-0) (block_of xs)) (sym c.deref-in-While.ensures.value) in
    let n = need_while (statement_of c.args.statement.now) _ _ e in
    subst (λ m. IfOk c.plus-in-While.result (λ k. k ≡ m)) (omega (arith, n, c.in_ok-inner-in-While.ensures)) c.plus-in-While.ensures

pub at_statement-returns-in_ok-inner-in-Split : goal.at_statement-returns-in_ok-inner-in-Split
at_statement-returns-in_ok-inner-in-Split t c =
    let e = is_split c.args.statement.now c.in-Split.field-0 c.in-Split.field-1 c.in-Split.field-2 c.in-Split.field-3 c.in-Split.field-4 c.in-Split.block c.in-Split.is
    ∙ ap (λ xs. Split c.in-Split.field-0 c.in-Split.field-1 (expression_of c.in-Split.field-2) c.in-Split.field-3 c.in-Split.field-4 (block_of xs)) (sym c.deref-in-Split.ensures.value) in
    let n = need_split (statement_of c.args.statement.now) _ _ _ _ _ _ e in
    subst (λ m. IfOk c.plus-in-Split.result (λ k. k ≡ m)) (omega (arith, n, c.in_ok-inner-in-Split.ensures)) c.plus-in-Split.ensures

-- an `each` needs those of its hidden procedure too
pub at_statement-returns-in_ok-inner-in-Each : goal.at_statement-returns-in_ok-inner-in-Each
at_statement-returns-in_ok-inner-in-Each t c =
    let e = is_each c.args.statement.now c.in-Each.field-0 c.in-Each.field-1 c.in-Each.field-2 c.in-Each.block c.in-Each.is
    ∙ ap (λ xs. Each c.in-Each.field-0 c.in-Each.field-1 c.in-Each.field-2 (block_of xs)) (sym c.deref-in-Each.ensures.value) in
    let n = need_each (statement_of c.args.statement.now) _ _ _ _ e in
    subst (λ m. IfOk c.plus-in-Each.result (λ k. k ≡ m)) (omega (arith, n, c.in_ok-inner-in-Each.ensures)) c.plus-in-Each.ensures
