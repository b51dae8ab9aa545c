use Rattle.std.proofs.Common.{◌+◌, sym, ap, ◌∙◌, arith}
use Rattle.ppm_tree.specs.Tree.{If, While, Split, Each, statement_of, block_of, expression_of}
use Rattle.ppm_tree.specs.Parts.{statements_in, statement_and_inner}
use Rattle.ppm_tree.proofs.Blocks.{is_if, is_while, is_split, is_each}
use Rattle.ppm_cut_bounds.proofs.Sums.{need, need_if, need_while, need_split, need_each, left_more}
use Rattle.ppm_cut_bounds.proofs.capsules.+capsules.Goals as goal

-- the first block needs too many
pub left_by-returns-in_err-rest-in-If : goal.left_by-returns-in_err-rest-in-If
left_by-returns-in_err-rest-in-If t c =
    let e = is_if c.args.statement.now c.in-If.field-0 c.in-If.block c.in-If.other c.in-If.is
    ∙ ap (λ xs. If (expression_of c.in-If.field-0) (block_of xs) (block_of c.in-If.other.items)) (sym c.deref.ensures.value) in
    let n = need_if (statement_of c.args.statement.now) _ _ _ e in
    rw c.from_residual-in_err-rest-in-If.ensures (omega (arith, n, c.in_err-rest-in-If.ensures, c.in_ok-own-in-If.ensures))

-- the statement, its first block and its second
pub left_by-returns-in_ok-rest-in-If : goal.left_by-returns-in_ok-rest-in-If
left_by-returns-in_ok-rest-in-If t c =
    let e = is_if c.args.statement.now c.in-If.field-0 c.in-If.block c.in-If.other c.in-If.is
    ∙ ap (λ xs. If (expression_of c.in-If.field-0) (block_of xs) (block_of c.in-If.other.items)) (sym c.deref.ensures.value)
    ∙ ap (λ xs. If (expression_of c.in-If.field-0) (block_of c.deref.result.now) (block_of xs)) (sym c.deref-in-If.ensures.value) in
    let n = need_if (statement_of c.args.statement.now) _ _ _ e in
    left_more c.left_by_block-in-If.result c.in_ok-rest-in-If.rest c.args.left (need (statements_in (block_of c.deref-in-If.result.now)))
    (4 + need (statements_in (block_of c.deref.result.now))) (need (statement_and_inner (statement_of c.args.statement.now)))
    (omega (arith, c.in_ok-rest-in-If.ensures, c.in_ok-own-in-If.ensures)) (omega (arith, n)) c.left_by_block-in-If.ensures

pub left_by-returns-in_ok-own-in-While : goal.left_by-returns-in_ok-own-in-While
left_by-returns-in_ok-own-in-While t c =
    let e = is_while c.args.statement.now c.in-While.field-0 c.in-While.block c.in-While.is
    ∙ ap (λ xs. While (expression_of c.in-While.field-0) (block_of xs)) (sym c.deref-in-While.ensures.value) in
    left_more c.left_by_block-in-While.result c.in_ok-own-in-While.own c.args.left _ 4 _
    (omega (arith, c.in_ok-own-in-While.ensures)) (need_while (statement_of c.args.statement.now) _ _ e) c.left_by_block-in-While.ensures

pub left_by-returns-in_ok-own-in-Split : goal.left_by-returns-in_ok-own-in-Split
left_by-returns-in_ok-own-in-Split t c =
    let e = is_split c.args.statement.now c.in-Split.field-0 c.in-Split.field-1 c.in-Split.field-2 c.in-Split.field-3 c.in-Split.field-4 c.in-Split.block c.in-Split.is
    ∙ ap (λ xs. Split c.in-Split.field-0 c.in-Split.field-1 (expression_of c.in-Split.field-2) c.in-Split.field-3 c.in-Split.field-4 (block_of xs)) (sym c.deref-in-Split.ensures.value) in
    left_more c.left_by_block-in-Split.result c.in_ok-own-in-Split.own c.args.left _ 4 _
    (omega (arith, c.in_ok-own-in-Split.ensures)) (need_split (statement_of c.args.statement.now) _ _ _ _ _ _ e) c.left_by_block-in-Split.ensures

-- an `each` needs those of its hidden procedure too
pub left_by-returns-in_ok-own-in-Each : goal.left_by-returns-in_ok-own-in-Each
left_by-returns-in_ok-own-in-Each t c =
    let e = is_each c.args.statement.now c.in-Each.field-0 c.in-Each.field-1 c.in-Each.field-2 c.in-Each.block c.in-Each.is
    ∙ ap (λ xs. Each c.in-Each.field-0 c.in-Each.field-1 c.in-Each.field-2 (block_of xs)) (sym c.deref-in-Each.ensures.value) in
    left_more c.left_by_block-in-Each.result c.in_ok-own-in-Each.own c.args.left _ 22 _
    (omega (arith, c.in_ok-own-in-Each.ensures)) (need_each (statement_of c.args.statement.now) _ _ _ _ e) c.left_by_block-in-Each.ensures
