use Rattle.std.proofs.Common.{◌≡◌, ◌≤◌, ◌∷◌, [], length, take, true≢false, sym, ap, subst, ◌∙◌}
use Rattle.std.proofs.lemmas.Result.{on_ok_weaker}
use Rattle.ppm_tree.specs.Tree.{If, While, Split, Each, statement_of, block_of, expression_of}
use Rattle.ppm_cut_bounds.specs.Names.{without, free_names, free_within}
use Rattle.ppm_cut_bounds.specs.Bounds.{limit_of, hidden_count}
use Rattle.ppm_cut_bounds.specs.Catching.{HasEachOnce}
use Rattle.ppm_tree.proofs.Blocks.{is_if, is_while, is_split, is_each}
use Rattle.ppm_cut_bounds.proofs.Blocks.{block_ahead}
use Rattle.ppm_cut_bounds.proofs.Notes.{then_noted, noted_same, noted_alike, block_step, under_two, once_from, counted}
use Rattle.ppm_cut_bounds.proofs.Keeping.{tells_stop, exit_by, kept_while, kept_split, kept_if_first, kept_if, kept_each, kept_step, kept_stop}
use Rattle.ppm_cut_bounds.proofs.eaches.+eaches.Goals as goal

-- two names come in force, the block is gone through, and they go out of force
pub in_block_with-returns-clause-names : goal.in_block_with-returns-clause-names
in_block_with-returns-clause-names t c =
    under_two c.in_ok-declare.ensures c.in_ok-declare-2.ensures c.in_ok-in_block.ensures.names
    (subst (λ n. c.leave.new.self.own ≡ take n c.in_block.new.walk.own) c.own_count-before.ensures c.leave.ensures.own) c.leave.ensures.caught

-- the first block passes the bound
pub in_blocks_of-returns-in_err-in_block-in-If-clause-kept : goal.in_blocks_of-returns-in_err-in_block-in-If-clause-kept
in_blocks_of-returns-in_err-in_block-in-If-clause-kept t c =
    let e = is_if c.args.statement.now c.in-If.field-0 c.in-If.block c.in-If.other c.in-If.is
    ∙ ap (λ xs. If (expression_of c.in-If.field-0) (block_of xs) (block_of c.in-If.other.items)) (sym c.deref.ensures.value) in
    exit_by _ _ c.from_residual.result c.from_residual.ensures.1
    (kept_if_first c.args.bound (statement_of c.args.statement.now) _ _ _ e _ c.in_err-in_block-in-If.ensures.kept)

-- the names in both blocks
pub in_blocks_of-returns-in_ok-in_block-in-If-clause-names : goal.in_blocks_of-returns-in_ok-in_block-in-If-clause-names
in_blocks_of-returns-in_ok-in_block-in-If-clause-names t c =
    let e = is_if c.args.statement.now c.in-If.field-0 c.in-If.block c.in-If.other c.in-If.is
    ∙ ap (λ xs. If (expression_of c.in-If.field-0) (block_of xs) (block_of c.in-If.other.items)) (sym c.deref.ensures.value)
    ∙ ap (λ xs. If (expression_of c.in-If.field-0) (block_of c.deref.result.now) (block_of xs)) (sym c.deref-in-If.ensures.value) in
    on_ok_weaker c.in_block-in-If.result (λ n. noted_same (ap free_within (sym e)) (then_noted c.in_ok-in_block-in-If.ensures.names n)) c.in_block-in-If.ensures.names

-- the first block keeps the bound, and the second decides
pub in_blocks_of-returns-in_ok-in_block-in-If-clause-kept : goal.in_blocks_of-returns-in_ok-in_block-in-If-clause-kept
in_blocks_of-returns-in_ok-in_block-in-If-clause-kept t c =
    let e = is_if c.args.statement.now c.in-If.field-0 c.in-If.block c.in-If.other c.in-If.is
    ∙ ap (λ xs. If (expression_of c.in-If.field-0) (block_of xs) (block_of c.in-If.other.items)) (sym c.deref.ensures.value)
    ∙ ap (λ xs. If (expression_of c.in-If.field-0) (block_of c.deref.result.now) (block_of xs)) (sym c.deref-in-If.ensures.value) in
    kept_if c.args.bound (statement_of c.args.statement.now) _ _ _ e c.in_ok-in_block-in-If.ensures.kept c.in_block-in-If.result c.in_block-in-If.ensures.kept

pub in_blocks_of-returns-in-While-clause-names : goal.in_blocks_of-returns-in-While-clause-names
in_blocks_of-returns-in-While-clause-names t c =
    let e = is_while c.args.statement.now c.in-While.field-0 c.in-While.block c.in-While.is
    ∙ ap (λ xs. While (expression_of c.in-While.field-0) (block_of xs)) (sym c.deref-in-While.ensures.value) in
    on_ok_weaker c.in_block-in-While.result (λ n. noted_same (ap free_within (sym e)) n) c.in_block-in-While.ensures.names

pub in_blocks_of-returns-in-While-clause-kept : goal.in_blocks_of-returns-in-While-clause-kept
in_blocks_of-returns-in-While-clause-kept t c =
    let e = is_while c.args.statement.now c.in-While.field-0 c.in-While.block c.in-While.is
    ∙ ap (λ xs. While (expression_of c.in-While.field-0) (block_of xs)) (sym c.deref-in-While.ensures.value) in
    kept_while c.args.bound (statement_of c.args.statement.now) _ _ e c.in_block-in-While.result c.in_block-in-While.ensures.kept

pub in_blocks_of-returns-in-Split-clause-names : goal.in_blocks_of-returns-in-Split-clause-names
in_blocks_of-returns-in-Split-clause-names t c =
    let e = is_split c.args.statement.now c.in-Split.field-0 c.in-Split.field-1 c.in-Split.field-2 c.in-Split.first c.in-Split.second c.in-Split.block c.in-Split.is
    ∙ ap (λ xs. Split c.in-Split.field-0 c.in-Split.field-1 (expression_of c.in-Split.field-2) c.in-Split.first c.in-Split.second (block_of xs)) (sym c.deref-in-Split.ensures.value) in
    on_ok_weaker c.in_block_with.result (λ n. noted_same (ap free_within (sym e)) n) c.in_block_with.ensures.names

pub in_blocks_of-returns-in-Split-clause-kept : goal.in_blocks_of-returns-in-Split-clause-kept
in_blocks_of-returns-in-Split-clause-kept t c =
    let e = is_split c.args.statement.now c.in-Split.field-0 c.in-Split.field-1 c.in-Split.field-2 c.in-Split.first c.in-Split.second c.in-Split.block c.in-Split.is
    ∙ ap (λ xs. Split c.in-Split.field-0 c.in-Split.field-1 (expression_of c.in-Split.field-2) c.in-Split.first c.in-Split.second (block_of xs)) (sym c.deref-in-Split.ensures.value) in
    kept_split c.args.bound (statement_of c.args.statement.now) _ _ _ _ _ _ e c.in_block_with.result c.in_block_with.ensures.kept

-- an `each` or one in its block passes the bound
pub in_blocks_of-returns-in_err-caught-in-Each-clause-kept : goal.in_blocks_of-returns-in_err-caught-in-Each-clause-kept
in_blocks_of-returns-in_err-caught-in-Each-clause-kept t c =
    let e = is_each c.args.statement.now c.in-Each.index c.in-Each.part c.in-Each.field-2 c.in-Each.block c.in-Each.is
    ∙ ap (λ xs. Each c.in-Each.index c.in-Each.part c.in-Each.field-2 (block_of xs)) (sym c.deref-in-Each.ensures.value) in
    let k = kept_each c.args.bound (statement_of c.args.statement.now) _ _ _ _ e in
    exit_by _ _ c.from_residual-in_err-caught-in-Each.result c.from_residual-in_err-caught-in-Each.ensures.1
    (tells_stop _ k.1 c.in_err-caught-in-Each.ensures.kept)

-- the names that an `each` catches are noted
pub in_blocks_of-returns-in_ok-note_all-in-Each-clause-names : goal.in_blocks_of-returns-in_ok-note_all-in-Each-clause-names
in_blocks_of-returns-in_ok-note_all-in-Each-clause-names t c =
    let e = is_each c.args.statement.now c.in-Each.index c.in-Each.part c.in-Each.field-2 c.in-Each.block c.in-Each.is
    ∙ ap (λ xs. Each c.in-Each.index c.in-Each.part c.in-Each.field-2 (block_of xs)) (sym c.deref-in-Each.ensures.value) in
    noted_same (ap free_within (sym e)) (noted_alike c.in_ok-caught-in-Each.ensures.names.same c.in_ok-note_all-in-Each.ensures)

pub in_blocks_of-returns-in_ok-note_all-in-Each-clause-kept : goal.in_blocks_of-returns-in_ok-note_all-in-Each-clause-kept
in_blocks_of-returns-in_ok-note_all-in-Each-clause-kept t c =
    let e = is_each c.args.statement.now c.in-Each.index c.in-Each.part c.in-Each.field-2 c.in-Each.block c.in-Each.is
    ∙ ap (λ xs. Each c.in-Each.index c.in-Each.part c.in-Each.field-2 (block_of xs)) (sym c.deref-in-Each.ensures.value) in
    (kept_each c.args.bound (statement_of c.args.statement.now) _ _ _ _ e).0 c.in_ok-caught-in-Each.ensures.kept

-- a statement passes the bound
pub in_block-returns-in_err-in_blocks_of-clause-kept : goal.in_block-returns-in_err-in_blocks_of-clause-kept
in_block-returns-in_err-in_blocks_of-clause-kept t c =
    exit_by _ _ c.from_residual-in_err-in_blocks_of.result c.from_residual-in_err-in_blocks_of.ensures.1
    (kept_stop c.args.bound c.args.block.now c.loop-statement.statement-index c.statement-item.result c.loop-statement-test.true c.statement-item.is _
    c.loop-statement.invariant.2 c.in_err-in_blocks_of.ensures.kept)

-- one more statement
pub in_block-loop-statement-preserved : goal.in_block-loop-statement-preserved
in_block-loop-statement-preserved t c = (
  block_step (block_ahead c.args.block.now c.loop-statement.statement-index c.statement-item.result c.loop-statement-test.true c.statement-item.is)
      c.loop-statement.invariant.0 c.in_ok-used.ensures c.in_ok-in_blocks_of.ensures.names c.in_ok-declare_lets.ensures,
  c.loop-statement.invariant.1,
  kept_step c.args.bound c.args.block.now c.loop-statement.statement-index c.statement-item.result c.loop-statement-test.true c.statement-item.is
      c.in_ok-in_blocks_of.ensures.kept c.loop-statement.invariant.2,
)

-- the hidden procedure passes the bound
pub caught_by-returns-then-not-hidden_keeps-clause-kept : goal.caught_by-returns-then-not-hidden_keeps-clause-kept
caught_by-returns-then-not-hidden_keeps-clause-kept t c =
    let once = once_from c.new-walk.ensures c.in_ok-in_block_with.ensures.names in
    let count = c.len.ensures ∙ ap length c.into_caught-caught.ensures ∙ counted c.args.index.now c.args.part.now (block_of c.args.block.now) once in
    λ h. true≢false (sym (c.hidden_keeps.ensures.1 (subst (λ n. hidden_count c.args.bound n (block_of c.args.block.now) ≤ limit_of c.args.bound) (sym count) h.1))
    ∙ c.if-not-hidden_keeps.true)

-- the names of outside, each once
pub caught_by-returns-clause-names : goal.caught_by-returns-clause-names
caught_by-returns-clause-names t c =
    subst (HasEachOnce (without (c.args.index.now.name ∷ c.args.part.now.name ∷ []) (free_names (block_of c.args.block.now)))) (sym c.into_caught-caught.ensures)
    (once_from c.new-walk.ensures c.in_ok-in_block_with.ensures.names)

-- those in the block keep the bound, and the hidden procedure does
pub caught_by-returns-clause-kept : goal.caught_by-returns-clause-kept
caught_by-returns-clause-kept t c =
    let once = once_from c.new-walk.ensures c.in_ok-in_block_with.ensures.names in
    let count = c.len.ensures ∙ ap length c.into_caught-caught.ensures ∙ counted c.args.index.now c.args.part.now (block_of c.args.block.now) once in (
      c.in_ok-in_block_with.ensures.kept,
      subst (λ n. hidden_count c.args.bound n (block_of c.args.block.now) ≤ limit_of c.args.bound) count (c.hidden_keeps.ensures.0 c.if-not-hidden_keeps.false),
    )
