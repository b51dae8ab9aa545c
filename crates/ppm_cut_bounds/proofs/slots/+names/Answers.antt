use Rattle.std.proofs.Common.{◌+◌, ◌∙◌, sym, ap, max, arith, length}
use Rattle.ppm_tree.specs.Tree.{statement_of, block_of}
use Rattle.ppm_cut_bounds.specs.Names.{lets_of}
use Rattle.ppm_cut_bounds.specs.Slots.{most_within, most_in_force}
use Rattle.ppm_tree.proofs.Blocks.{is_if, is_while, is_split}
use Rattle.ppm_cut_bounds.proofs.Counts.{fits_block, fits_both, fits_inner, first_not}
use Rattle.ppm_cut_bounds.proofs.slots.+names.Goals as goal

-- the first block takes too many
pub left_behind-returns-then-not-names_fit : goal.left_behind-returns-then-not-names_fit
left_behind-returns-then-not-names_fit t c =
    let e = is_if c.args.statement.now c.in-If.field-0 c.in-If.block c.in-If.other c.in-If.is in
    let m = ap (λ xs. most_in_force (block_of xs)) c.deref.ensures.value in
    let f = c.names_fit.ensures in
    first_not (most_within (statement_of c.args.statement.now)) (length (lets_of (statement_of c.args.statement.now))) c.args.room
    (most_in_force (block_of c.in-If.block.items)) (most_in_force (block_of c.in-If.other.items)) (ap most_within e)
    (λ h. grind (arith, f, m, h, c.if-not-names_fit.true))

-- the first block fits, and the second decides
pub left_behind-returns-else-not-names_fit : goal.left_behind-returns-else-not-names_fit
left_behind-returns-else-not-names_fit t c =
    let e = is_if c.args.statement.now c.in-If.field-0 c.in-If.block c.in-If.other c.in-If.is in
    let m = ap (λ xs. most_in_force (block_of xs)) c.deref.ensures.value in
    let n = ap (λ xs. most_in_force (block_of xs)) c.deref-in-If.ensures.value in
    let f = c.names_fit.ensures in
    fits_both (most_within (statement_of c.args.statement.now)) (length (lets_of (statement_of c.args.statement.now))) c.args.room
    (most_in_force (block_of c.deref.result.now)) (most_in_force (block_of c.deref-in-If.result.now)) _ _
    (ap most_within e ∙ ap (λ k. max k (most_in_force (block_of c.in-If.other.items))) (sym m) ∙ ap (max (most_in_force (block_of c.deref.result.now))) (sym n))
    (ap (λ s. length (lets_of s)) e) (grind (arith, f, c.if-not-names_fit.false)) c.names_fit-in-If.ensures c.then_some.ensures

pub left_behind-returns-in-While : goal.left_behind-returns-in-While
left_behind-returns-in-While t c =
    let e = is_while c.args.statement.now c.in-While.field-0 c.in-While.block c.in-While.is in
    let m = ap (λ xs. most_in_force (block_of xs)) c.deref-in-While.ensures.value in
    fits_block (most_within (statement_of c.args.statement.now)) (length (lets_of (statement_of c.args.statement.now))) c.args.room
    (most_in_force (block_of c.deref-in-While.result.now)) _ _ (ap most_within e ∙ sym m) (ap (λ s. length (lets_of s)) e)
    c.names_fit-in-While.ensures c.then_some-in-While.ensures

pub left_behind-returns-in_ok-inner-in-Split : goal.left_behind-returns-in_ok-inner-in-Split
left_behind-returns-in_ok-inner-in-Split t c =
    let e = is_split c.args.statement.now c.in-Split.field-0 c.in-Split.field-1 c.in-Split.field-2 c.in-Split.field-3 c.in-Split.field-4 c.in-Split.block c.in-Split.is in
    let m = ap (λ xs. 2 + most_in_force (block_of xs)) c.deref-in-Split.ensures.value in
    fits_inner (most_within (statement_of c.args.statement.now)) (length (lets_of (statement_of c.args.statement.now))) c.args.room
    (most_in_force (block_of c.deref-in-Split.result.now)) c.in_ok-inner-in-Split.inner _ _ (ap most_within e ∙ sym m) (ap (λ s. length (lets_of s)) e)
    (omega (arith, c.in_ok-inner-in-Split.ensures))
    c.names_fit-in-Split.ensures c.then_some-in-Split.ensures
