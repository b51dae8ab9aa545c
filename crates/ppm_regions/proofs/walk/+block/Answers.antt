use Rattle.std.proofs.Common.{[], ◌∷◌, ◌++◌, take, refl, sym, ap, subst, ◌∙◌, append_assoc}
use Rattle.ppm_tree.specs.Tree.{block_of, statement_of, tree_of}
use Rattle.ppm_regions.specs.Scope.{Scope, scope_behind, lets_of}
use Rattle.ppm_regions.specs.Kept.{Becomes, seen}
use Rattle.ppm_regions.specs.Uses.{sites_at, uses_of, sites_within, sites_of_block, declaration_sites}
use Rattle.ppm_regions.specs.Deciding.{IsLeast}
use Rattle.ppm_regions.proofs.KeptLemmas.{becomes_next, behind_more_of, behind_more_with, left_behind, stays}
use Rattle.ppm_regions.proofs.Least.{least_append, least_empty}
use Rattle.ppm_regions.proofs.Loops.{loop_step, block_more, behind_next, statement_sites}
use Rattle.ppm_tree.proofs.Blocks.{if_is, while_is, split_is, each_is}
use Rattle.ppm_regions.proofs.walk.+block.Goals as goal

-- none so far
pub in_block-loop-statement-init : goal.in_block-loop-statement-init
in_block-loop-statement-init n c = record { least = least_empty (tree_of c.args.procedures.now); scope = stays c.args.scope.now }

-- the statements so far and one more
pub in_block-loop-statement-preserved : goal.in_block-loop-statement-preserved
in_block-loop-statement-preserved n c =
    let t = tree_of c.args.procedures.now in
    let start = seen c.args.scope.now in
    let i = c.loop-statement.statement-index in
    let s = scope_behind start (block_of (take i c.args.block.now)) in
    let x = statement_of c.statement-item.result in
    let inv = c.loop-statement.invariant in
    record {
      least =
          rw (c.earlier-found.ensures, c.earlier-in-loop-statement.ensures, c.earlier.ensures)
          (loop_step t (λ xs. sites_of_block t start (block_of xs)) (λ xs y. statement_sites t (scope_behind start (block_of xs)) y) (block_more t start) c.args.block.now i
          c.statement-item.result _ _ c.loop-statement-test.true c.statement-item.is inv.least
          (least_append t (sites_at s (uses_of t x) ++ sites_within t s x) (declaration_sites s (lets_of x)) _ _
          (least_append t (sites_at s (uses_of t x)) (sites_within t s x) _ _ (rw inv.scope.scope at c.in_ok-used.ensures)
          (rw inv.scope.scope at c.in_ok-inside.ensures.least)) (rw (c.in_ok-inside.ensures.scope, inv.scope.scope) at c.in_ok-twice.ensures.least t)));
      scope =
          becomes_next _ _ _ _ _ _ inv.scope (subst (λ k. Becomes (λ l. l ++ lets_of x) k c.behind.new.scope) c.in_ok-inside.ensures.scope c.in_ok-twice.ensures.scope)
          (λ l. behind_next l c.args.block.now i c.statement-item.result _ _ c.loop-statement-test.true c.statement-item.is refl refl);
    }

-- what the block declares is in force no more
pub in_inner-returns-clause-scope : goal.in_inner-returns-clause-scope
in_inner-returns-clause-scope n c =
    c.truncate.ensures
    ∙ left_behind (λ s. scope_behind s (block_of c.args.block.now)) c.len-count.result c.args.scope.now c.in_block.new.scope (λ s. behind_more_of s (block_of c.args.block.now))
    c.len-count.ensures.value c.in_ok-found.ensures.scope

-- two declarations, and a block
pub in_inner_with-returns-clause-least : goal.in_inner_with-returns-clause-least
in_inner_with-returns-clause-least n c =
    let t = tree_of c.args.procedures.now in
    let s = seen c.args.scope.now in
    let there = c.in_ok-again.ensures.scope.scope ∙ ap (λ z. z ++ c.args.second ∷ []) c.in_ok-twice.ensures.scope.scope ∙ append_assoc s (c.args.first ∷ []) (c.args.second ∷ []) in
    rw (c.earlier-2.ensures, c.earlier.ensures)
    (least_append t (declaration_sites s (c.args.first ∷ c.args.second ∷ [])) (sites_of_block t (s ++ c.args.first ∷ c.args.second ∷ []) (block_of c.args.block.now)) _ _
    (least_append t (declaration_sites s (c.args.first ∷ [])) (declaration_sites (s ++ c.args.first ∷ []) (c.args.second ∷ [])) _ _ (c.in_ok-twice.ensures.least t)
    (rw c.in_ok-twice.ensures.scope.scope at c.in_ok-again.ensures.least t)) (rw there at c.in_ok-inside.ensures.least))

-- both blocks
pub within-returns-in_ok-fails-in-If-clause-least : goal.within-returns-in_ok-fails-in-If-clause-least
within-returns-in_ok-fails-in-If-clause-least n c =
    let t = tree_of c.args.procedures.now in
    let s = seen c.args.scope.now in
    let whole = ap (sites_within t s) (ap statement_of c.in-If.is ∙ if_is c.in-If.field-0 c.in-If.block c.in-If.other) in
    subst (λ sites. IsLeast t sites c.earlier.result) (sym whole)
    (rw c.earlier.ensures
    (least_append t (sites_of_block t s (block_of c.in-If.block.items)) (sites_of_block t s (block_of c.in-If.other.items)) _ _
    (rw c.deref.ensures.value at c.in_ok-holds-in-If.ensures.least) (rw (c.deref-in-If.ensures.value, c.in_ok-holds-in-If.ensures.scope) at c.in_ok-fails-in-If.ensures.least)))

-- the block
pub within-returns-in-While-clause-least : goal.within-returns-in-While-clause-least
within-returns-in-While-clause-least n c =
    rw (c.in-While.is, while_is c.in-While.field-0 c.in-While.block) (rw c.deref-in-While.ensures.value at c.in_inner-in-While.ensures.least)

-- what the two and the block declare is in force no more
pub in_inner_with-returns-clause-scope : goal.in_inner_with-returns-clause-scope
in_inner_with-returns-clause-scope n c =
    let block = block_of c.args.block.now in
    let two : Scope → Scope = λ s. s ++ c.args.first ∷ c.args.second ∷ [] in
    let both = becomes_next (λ s. s ++ c.args.first ∷ []) (λ s. s ++ c.args.second ∷ []) two c.args.scope.now c.declare.new.scope c.declare-2.new.scope
    c.in_ok-twice.ensures.scope c.in_ok-again.ensures.scope (λ s. append_assoc s (c.args.first ∷ []) (c.args.second ∷ [])) in
    let all = becomes_next two (λ s. scope_behind s block) (λ s. scope_behind (two s) block) c.args.scope.now c.declare-2.new.scope c.in_block.new.scope
    both c.in_ok-inside.ensures.scope (λ s. refl) in
    c.truncate.ensures
    ∙ left_behind (λ s. scope_behind (two s) block) c.len-count.result c.args.scope.now c.in_block.new.scope (λ s. behind_more_with s (c.args.first ∷ c.args.second ∷ []) block)
    c.len-count.ensures.value all

-- the block with the parts
pub within-returns-in_ok-inside-in-Split-clause-least : goal.within-returns-in_ok-inside-in-Split-clause-least
within-returns-in_ok-inside-in-Split-clause-least n c =
    let t = tree_of c.args.procedures.now in
    let whole = ap (sites_within t (seen c.args.scope.now))
    (ap statement_of c.in-Split.is ∙ split_is c.in-Split.field-0 c.in-Split.region c.in-Split.field-2 c.in-Split.first c.in-Split.second c.in-Split.block) in
    subst (λ sites. IsLeast t sites c.in_ok-inside-in-Split.inside) (sym whole)
    (rw (c.in_ok-enter_split-in-Split.ensures.scope, c.part-first.ensures, c.part-second.ensures, c.deref-in-Split.ensures.value) at c.in_ok-inside-in-Split.ensures.least)

-- the block with the element
pub within-returns-in_ok-inside-in-Each-clause-least : goal.within-returns-in_ok-inside-in-Each-clause-least
within-returns-in_ok-inside-in-Each-clause-least n c =
    let t = tree_of c.args.procedures.now in
    let whole = ap (sites_within t (seen c.args.scope.now))
    (ap statement_of c.in-Each.is ∙ each_is c.in-Each.index c.in-Each.element c.in-Each.region c.in-Each.block) in
    subst (λ sites. IsLeast t sites c.in_ok-inside-in-Each.inside) (sym whole)
    (rw (c.in_ok-enter_each-in-Each.ensures.scope, c.index-index.ensures, c.part-element.ensures, c.deref-in-Each.ensures.value) at c.in_ok-inside-in-Each.ensures.least)
