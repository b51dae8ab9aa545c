use Rattle.std.proofs.Common.{◌≡◌, take, sym, ap, subst, ◌∙◌}
use Rattle.std.proofs.lemmas.Result.{on_ok_weaker}
use Rattle.ppm_tree.specs.Tree.{If, While, Split, Each, block_of, expression_of}
use Rattle.ppm_cut_bounds.specs.Names.{free_within}
use Rattle.ppm_tree.proofs.Blocks.{is_if, is_while, is_split, is_each}
use Rattle.ppm_cut_bounds.proofs.Blocks.{block_ahead}
use Rattle.ppm_cut_bounds.proofs.Notes.{then_noted, noted_same, block_step, under_two}
use Rattle.ppm_excess.proofs.outside.+outside.Goals as goal

-- two names come in force, the block is gone through, and they go out of force
pub in_block_with-returns : goal.in_block_with-returns
in_block_with-returns t c =
    under_two c.in_ok-declare.ensures c.in_ok-declare-2.ensures c.in_ok-in_block.ensures
    (subst (λ n. c.leave.new.self.own ≡ take n c.in_block.new.walk.own) c.own_count-before.ensures c.leave.ensures.own) c.leave.ensures.caught

-- the names in both blocks
pub in_blocks_of-returns-in_ok-in_block-in-If : goal.in_blocks_of-returns-in_ok-in_block-in-If
in_blocks_of-returns-in_ok-in_block-in-If t c =
    let e = is_if c.args.statement.now c.in-If.field-0 c.in-If.block c.in-If.other c.in-If.is
    ∙ ap (λ xs. If (expression_of c.in-If.field-0) (block_of xs) (block_of c.in-If.other.items)) (sym c.deref.ensures.value)
    ∙ ap (λ xs. If (expression_of c.in-If.field-0) (block_of c.deref.result.now) (block_of xs)) (sym c.deref-in-If.ensures.value) in
    on_ok_weaker c.in_block-in-If.result (λ n. noted_same (ap free_within (sym e)) (then_noted c.in_ok-in_block-in-If.ensures n)) c.in_block-in-If.ensures

pub in_blocks_of-returns-in-While : goal.in_blocks_of-returns-in-While
in_blocks_of-returns-in-While t c =
    let e = is_while c.args.statement.now c.in-While.field-0 c.in-While.block c.in-While.is
    ∙ ap (λ xs. While (expression_of c.in-While.field-0) (block_of xs)) (sym c.deref-in-While.ensures.value) in
    on_ok_weaker c.in_block-in-While.result (λ n. noted_same (ap free_within (sym e)) n) c.in_block-in-While.ensures

pub in_blocks_of-returns-in-Split : goal.in_blocks_of-returns-in-Split
in_blocks_of-returns-in-Split t c =
    let e = is_split c.args.statement.now c.in-Split.field-0 c.in-Split.field-1 c.in-Split.field-2 c.in-Split.first c.in-Split.second c.in-Split.block c.in-Split.is
    ∙ ap (λ xs. Split c.in-Split.field-0 c.in-Split.field-1 (expression_of c.in-Split.field-2) c.in-Split.first c.in-Split.second (block_of xs)) (sym c.deref-in-Split.ensures.value) in
    on_ok_weaker c.in_block_with.result (λ n. noted_same (ap free_within (sym e)) n) c.in_block_with.ensures

pub in_blocks_of-returns-in-Each : goal.in_blocks_of-returns-in-Each
in_blocks_of-returns-in-Each t c =
    let e = is_each c.args.statement.now c.in-Each.index c.in-Each.part c.in-Each.field-2 c.in-Each.block c.in-Each.is
    ∙ ap (λ xs. Each c.in-Each.index c.in-Each.part c.in-Each.field-2 (block_of xs)) (sym c.deref-in-Each.ensures.value) in
    on_ok_weaker c.in_block_with-in-Each.result (λ n. noted_same (ap free_within (sym e)) n) c.in_block_with-in-Each.ensures

-- one more statement
pub in_block-loop-statement-preserved : goal.in_block-loop-statement-preserved
in_block-loop-statement-preserved t c = (
  block_step (block_ahead c.args.block.now c.loop-statement.statement-index c.statement-item.result c.loop-statement-test.true c.statement-item.is)
      c.loop-statement.invariant.0 c.in_ok-used.ensures c.in_ok-in_blocks_of.ensures c.in_ok-declare_lets.ensures,
  c.loop-statement.invariant.1,
)
