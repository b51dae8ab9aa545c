use Rattle.std.proofs.Common.{refl, ◌+◌, drop, sym, ap, ◌∙◌}
use Rattle.ppm_tree.specs.Tree.{statement_of, block_of}
use Rattle.ppm_cut_bounds.specs.Names.{free_names, free_within}
use Rattle.ppm_cut_bounds.specs.Catching.{has}
use Rattle.ppm_cut_bounds.proofs.Blocks.{block_ahead}
use Rattle.ppm_cut.proofs.Stmts.{if_is, while_is, split_is, each_is}
use Rattle.ppm_cut.proofs.Members.{under_first, under_second, under_neither, in_first, in_second, here_let, later}
use Rattle.ppm_cut.proofs.free.+free.Goals as goal

pub is_free_under-returns-then-is : goal.is_free_under-returns-then-is
is_free_under-returns-then-is t c = under_first c.args.first.now.name c.args.second.now.name c.args.name.now (free_names (block_of c.args.block.now)) _ c.is.ensures c.if-is.true

pub is_free_under-returns-then-is-2 : goal.is_free_under-returns-then-is-2
is_free_under-returns-then-is-2 t c = under_second c.args.first.now.name c.args.second.now.name c.args.name.now (free_names (block_of c.args.block.now)) _ c.is-2.ensures c.if-is-2.true

pub is_free_under-returns : goal.is_free_under-returns
is_free_under-returns t c =
    c.is_free.ensures ∙ under_neither c.args.first.now.name c.args.second.now.name c.args.name.now (free_names (block_of c.args.block.now)) _ _ c.is.ensures c.if-is.false c.is-2.ensures c.if-is-2.false

pub is_free-returns-then-is_let : goal.is_free-returns-then-is_let
is_free-returns-then-is_let t c =
    sym (here_let (block_of (drop c.loop-statement.statement-index c.args.block.now)) (statement_of c.statement-item.result) (block_of (drop (c.loop-statement.statement-index + 1) c.args.block.now)) c.args.name.now (block_ahead c.args.block.now c.loop-statement.statement-index c.statement-item.result c.loop-statement-test.true c.statement-item.is) (sym c.is_used.ensures ∙ c.if-is_used.false) (sym c.is_free_within.ensures ∙ c.if-is_free_within.false) (sym c.is_let.ensures ∙ c.if-is_let.true)) ∙ c.loop-statement.invariant

pub is_free-loop-statement-preserved : goal.is_free-loop-statement-preserved
is_free-loop-statement-preserved t c =
    sym (later (block_of (drop c.loop-statement.statement-index c.args.block.now)) (statement_of c.statement-item.result) (block_of (drop (c.loop-statement.statement-index + 1) c.args.block.now)) c.args.name.now (block_ahead c.args.block.now c.loop-statement.statement-index c.statement-item.result c.loop-statement-test.true c.statement-item.is) (sym c.is_used.ensures ∙ c.if-is_used.false) (sym c.is_free_within.ensures ∙ c.if-is_free_within.false) (sym c.is_let.ensures ∙ c.if-is_let.false)) ∙ c.loop-statement.invariant

pub is_free_within-returns-then-is_free : goal.is_free_within-returns-then-is_free
is_free_within-returns-then-is_free t c =
    let e = if_is c.args.statement.now c.in-If.field-0 c.in-If.block c.in-If.other c.deref.result.now c.in-If.other.items c.in-If.is c.deref.ensures.value refl in
    in_first (free_names (block_of c.deref.result.now)) (free_names (block_of c.in-If.other.items)) c.args.name.now (sym c.is_free.ensures ∙ c.if-is_free.true) ∙ ap (λ s. has (free_within s) c.args.name.now) (sym e)

pub is_free_within-returns-else-is_free : goal.is_free_within-returns-else-is_free
is_free_within-returns-else-is_free t c =
    let e = if_is c.args.statement.now c.in-If.field-0 c.in-If.block c.in-If.other c.deref.result.now c.deref-in-If.result.now c.in-If.is c.deref.ensures.value c.deref-in-If.ensures.value in
    c.is_free-in-If.ensures
    ∙ in_second (free_names (block_of c.deref.result.now)) (free_names (block_of c.deref-in-If.result.now)) c.args.name.now (sym c.is_free.ensures ∙ c.if-is_free.false) ∙ ap (λ s. has (free_within s) c.args.name.now) (sym e)

pub is_free_within-returns-in-While : goal.is_free_within-returns-in-While
is_free_within-returns-in-While t c = let e = while_is c.args.statement.now c.in-While.field-0 c.in-While.block c.deref-in-While.result.now c.in-While.is c.deref-in-While.ensures.value in c.is_free-in-While.ensures ∙ ap (λ s. has (free_within s) c.args.name.now) (sym e)

pub is_free_within-returns-in-Split : goal.is_free_within-returns-in-Split
is_free_within-returns-in-Split t c = let e = split_is c.args.statement.now c.in-Split.field-0 c.in-Split.field-1 c.in-Split.field-2 c.in-Split.first c.in-Split.second c.in-Split.block c.deref-in-Split.result.now c.in-Split.is c.deref-in-Split.ensures.value in c.is_free_under.ensures ∙ ap (λ s. has (free_within s) c.args.name.now) (sym e)

pub is_free_within-returns-in-Each : goal.is_free_within-returns-in-Each
is_free_within-returns-in-Each t c = let e = each_is c.args.statement.now c.in-Each.index c.in-Each.part c.in-Each.field-2 c.in-Each.block c.deref-in-Each.result.now c.in-Each.is c.deref-in-Each.ensures.value in c.is_free_under-in-Each.ensures ∙ ap (λ s. has (free_within s) c.args.name.now) (sym e)
