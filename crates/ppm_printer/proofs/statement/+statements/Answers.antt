use Rattle.std.proofs.Common.{sym, ap, ◌∙◌, ◌<◌, length, arith}
use Rattle.std.proofs.lemmas.Bool.Decides.{nat_tests}
use Rattle.ppm_tree.specs.Tree.{If, While, Split, Each, statement_of, block_of, expression_of}
use Rattle.ppm_printer.proofs.Appending.{if_text, while_text, split_text, each_text, else_text}
use Rattle.ppm_tree.proofs.Blocks.{is_if, is_while, is_split, is_each}
use Rattle.ppm_printer.proofs.statement.+statements.Goals as goal

-- the test, the block, and what stands after it
pub push_statement-returns-in_ok-push_else-in-If : goal.push_statement-returns-in_ok-push_else-in-If
push_statement-returns-in_ok-push_else-in-If t c =
    let e = is_if c.args.statement.now c.in-If.test c.in-If.block c.in-If.other c.in-If.is
    ∙ ap (λ xs. If (expression_of c.in-If.test) (block_of xs) (block_of c.in-If.other.items)) (sym c.deref.ensures.value)
    ∙ ap (λ xs. If (expression_of c.in-If.test) (block_of c.deref.result.now) (block_of xs)) (sym c.deref-in-If.ensures.value) in
    if_text (statement_of c.args.statement.now) _ _ _ c.args.text.now.items c.push_test.new.text.items c.push_braced.new.text.items
    c.push_else.new.text.items e c.in_ok-push_test-in-If.ensures c.in_ok-push_braced-in-If.ensures c.in_ok-push_else-in-If.ensures

pub push_statement-returns-in_ok-push_braced-in-While : goal.push_statement-returns-in_ok-push_braced-in-While
push_statement-returns-in_ok-push_braced-in-While t c =
    let e = is_while c.args.statement.now c.in-While.test c.in-While.block c.in-While.is
    ∙ ap (λ xs. While (expression_of c.in-While.test) (block_of xs)) (sym c.deref-in-While.ensures.value) in
    while_text (statement_of c.args.statement.now) _ _ c.args.text.now.items c.push_test-in-While.new.text.items c.push_braced-in-While.new.text.items
    e c.in_ok-push_test-in-While.ensures c.in_ok-push_braced-in-While.ensures

pub push_statement-returns-in_ok-push_braced-in-Split : goal.push_statement-returns-in_ok-push_braced-in-Split
push_statement-returns-in_ok-push_braced-in-Split t c =
    let i = c.in-Split in
    let e = is_split c.args.statement.now i.field-0 i.region i.at i.first i.second i.block i.is
    ∙ ap (λ xs. Split i.field-0 i.region (expression_of i.at) i.first i.second (block_of xs)) (sym c.deref-in-Split.ensures.value) in
    split_text (statement_of c.args.statement.now) _ _ _ _ _ _ c.args.text.now.items c.push_split.new.text.items c.push_braced-in-Split.new.text.items
    e c.in_ok-push_split-in-Split.ensures c.in_ok-push_braced-in-Split.ensures

pub push_statement-returns-in_ok-push_braced-in-Each : goal.push_statement-returns-in_ok-push_braced-in-Each
push_statement-returns-in_ok-push_braced-in-Each t c =
    let i = c.in-Each in
    let e = is_each c.args.statement.now i.index i.part i.region i.block i.is
    ∙ ap (λ xs. Each i.index i.part i.region (block_of xs)) (sym c.deref-in-Each.ensures.value) in
    each_text (statement_of c.args.statement.now) _ _ _ _ c.args.text.now.items c.push_each.new.text.items c.push_braced-in-Each.new.text.items
    e c.in_ok-push_each-in-Each.ensures c.in_ok-push_braced-in-Each.ensures

-- the block is not empty
pub push_else-returns : goal.push_else-returns
push_else-returns t c =
    let some : 0 < length c.args.block.now = grind (arith, nat_tests) in
    else_text c.args.block.now c.args.text.now.items c.push_keyword.new.text.items c.push_braced.new.text.items some
    c.in_ok-push_keyword.ensures c.in_ok-push_braced.ensures
