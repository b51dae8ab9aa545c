-- Statements one by one, and blocks.
use Rattle.std.proofs.Common.{◌∙◌, ap, subst, refl, map, List, ℕ, drop}
use Rattle.ppm_tree.specs.Tree.{procedure_of, block_of, statement_of, expression_of, side_of}
use Rattle.ppm_tree.specs.declared.tree.Stmt.{Stmt}
use Rattle.ppm_serial.specs.Names.{slot_in}
use Rattle.ppm_serial.specs.Laying.{LaysBlock, LaysSome}
use Rattle.ppm_serial.proofs.ProgramLemmas.{lays_none, lays_next, lays_put, lays_if, lays_while, lays_call, lays_fork, lays_split, lays_each}
use Rattle.ppm_serial.proofs.ArmLemmas.{if_is, while_is, split_is, each_is, as_declared, let_all, assign_all, next_is, none_left, block_all}
use Rattle.ppm_serial.proofs.lay.Scope.+lay.Goals as goal

pub block-loop-statement-init : goal.block-loop-statement-init
block-loop-statement-init t c = rw c.new-steps.ensures.items (lays_none (map procedure_of c.args.self.now.procedures.now) c.args.self.now.names.now (block_of c.args.block.now) c.args.blocks.now)

pub block-loop-statement-preserved : goal.block-loop-statement-preserved
block-loop-statement-preserved t c =
    rw c.in_ok-push.ensures.items
    (lays_next (map procedure_of c.args.self.now.procedures.now) c.args.self.now.names.now (block_of c.args.block.now) _ (statement_of c.statement-item.result) c.args.blocks.now c.loop-statement.blocks c.statement.new.blocks c.loop-statement.steps.items c.in_ok-step.step
    (subst (λ (b : _). LaysSome (map procedure_of c.args.self.now.procedures.now) c.args.self.now.names.now (block_of c.args.block.now) b c.args.blocks.now c.loop-statement.blocks c.loop-statement.steps.items)
    (next_is c.args.block.now c.loop-statement.statement-index c.statement-item.result c.loop-statement-test.true c.statement-item.is) c.loop-statement.invariant)
    c.in_ok-step.ensures)

pub block-returns : goal.block-returns
block-returns t c = block_all (map procedure_of c.args.self.now.procedures.now) c.args.self.now.names.now (block_of c.args.block.now) (block_of (drop c.loop-statement.statement-index c.args.block.now)) c.args.blocks.now c.loop-statement.blocks c.push-2.new.self c.loop-statement.steps.items c.push-2.result (none_left c.args.block.now c.loop-statement.statement-index c.loop-statement-test.false) c.loop-statement.invariant c.push-2.ensures.blocks c.push-2.ensures.place

pub statement-returns-in-Let : goal.statement-returns-in-Let
statement-returns-in-Let t c = let_all (map procedure_of c.args.self.now.procedures.now) c.args.self.now.names.now c.args.statement.now c.in-Let.name c.in-Let.e c.args.blocks.now c.set.result c.in-Let.is c.set.ensures

pub statement-returns-in-Assign : goal.statement-returns-in-Assign
statement-returns-in-Assign t c = assign_all (map procedure_of c.args.self.now.procedures.now) c.args.self.now.names.now c.args.statement.now c.in-Assign.name c.in-Assign.e c.args.blocks.now c.set-in-Assign.result c.in-Assign.is c.set-in-Assign.ensures

pub statement-returns-in_ok-value-in-Put : goal.statement-returns-in_ok-value-in-Put
statement-returns-in_ok-value-in-Put t c = as_declared c.in-Put.is refl
    (lays_put (map procedure_of c.args.self.now.procedures.now) c.args.self.now.names.now c.in-Put.name (expression_of c.in-Put.index) (expression_of c.in-Put.e) c.args.blocks.now c.slot-slot.result c.in_ok-index-in-Put.index c.in_ok-value-in-Put.value
    (c.slot-slot.ensures ∙ ap (λ (t : List (List ℕ)). slot_in t c.in-Put.name.name) c.regions.ensures) c.in_ok-index-in-Put.ensures c.in_ok-value-in-Put.ensures)

pub statement-returns-in_ok-otherwise-in-If : goal.statement-returns-in_ok-otherwise-in-If
statement-returns-in_ok-otherwise-in-If t c = as_declared c.in-If.is (if_is c.in-If.test c.in-If.holds c.in-If.otherwise)
    (lays_if (map procedure_of c.args.self.now.procedures.now) c.args.self.now.names.now (expression_of c.in-If.test) (block_of c.in-If.holds.items) (block_of c.in-If.otherwise.items) c.args.blocks.now c.block.new.blocks c.block-in-If.new.blocks
    c.in_ok-test-in-If.test c.in_ok-holds-in-If.holds c.in_ok-otherwise-in-If.otherwise c.in_ok-test-in-If.ensures
    (subst (λ (xs : List Stmt). LaysBlock (map procedure_of c.args.self.now.procedures.now) c.args.self.now.names.now (block_of xs) c.args.blocks.now c.block.new.blocks c.in_ok-holds-in-If.holds) c.deref.ensures.value c.in_ok-holds-in-If.ensures)
    (subst (λ (xs : List Stmt). LaysBlock (map procedure_of c.args.self.now.procedures.now) c.args.self.now.names.now (block_of xs) c.block.new.blocks c.block-in-If.new.blocks c.in_ok-otherwise-in-If.otherwise) c.deref-in-If.ensures.value c.in_ok-otherwise-in-If.ensures))

pub statement-returns-in_ok-place-in-While : goal.statement-returns-in_ok-place-in-While
statement-returns-in_ok-place-in-While t c = as_declared c.in-While.is (while_is c.in-While.test c.in-While.block)
    (lays_while (map procedure_of c.args.self.now.procedures.now) c.args.self.now.names.now (expression_of c.in-While.test) (block_of c.in-While.block.items) c.args.blocks.now c.block-in-While.new.blocks c.lay_test.new.blocks
    c.in_ok-test-in-While.test c.in_ok-place-in-While.place c.in_ok-block-in-While.block c.in_ok-test-in-While.ensures
    (subst (λ (xs : List Stmt). LaysBlock (map procedure_of c.args.self.now.procedures.now) c.args.self.now.names.now (block_of xs) c.args.blocks.now c.block-in-While.new.blocks c.in_ok-block-in-While.block) c.deref-in-While.ensures.value c.in_ok-block-in-While.ensures)
    c.in_ok-place-in-While.ensures.blocks c.in_ok-place-in-While.ensures.place)

pub statement-returns-in_ok-call-in-Call : goal.statement-returns-in_ok-call-in-Call
statement-returns-in_ok-call-in-Call t c = as_declared c.in-Call.is refl (lays_call (map procedure_of c.args.self.now.procedures.now) c.args.self.now.names.now (side_of c.in-Call.side) c.args.blocks.now c.in_ok-call-in-Call.call c.in_ok-call-in-Call.ensures)

pub statement-returns-in_ok-right-in-Fork : goal.statement-returns-in_ok-right-in-Fork
statement-returns-in_ok-right-in-Fork t c = as_declared c.in-Fork.is refl
    (lays_fork (map procedure_of c.args.self.now.procedures.now) c.args.self.now.names.now (side_of c.in-Fork.left) (side_of c.in-Fork.right) c.args.blocks.now c.in_ok-left-in-Fork.left c.in_ok-right-in-Fork.right c.in_ok-left-in-Fork.ensures c.in_ok-right-in-Fork.ensures)

pub statement-returns-in_ok-block-in-Split : goal.statement-returns-in_ok-block-in-Split
statement-returns-in_ok-block-in-Split t c = as_declared c.in-Split.is (split_is c.in-Split.line c.in-Split.region c.in-Split.at c.in-Split.first c.in-Split.second c.in-Split.block)
    (lays_split (map procedure_of c.args.self.now.procedures.now) c.args.self.now.names.now c.in-Split.line c.in-Split.region (expression_of c.in-Split.at) c.in-Split.first c.in-Split.second (block_of c.in-Split.block.items) c.args.blocks.now c.block-in-Split.new.blocks
    c.slot-region.result c.in_ok-at-in-Split.at (record { first = c.slot-first.result; second = c.slot-second.result; block = c.in_ok-block-in-Split.block })
    (c.slot-region.ensures ∙ ap (λ (t : List (List ℕ)). slot_in t c.in-Split.region.name) c.regions-in-Split.ensures) c.in_ok-at-in-Split.ensures
    (c.slot-first.ensures ∙ ap (λ (t : List (List ℕ)). slot_in t c.in-Split.first.name) c.regions-in-Split-2.ensures) (c.slot-second.ensures ∙ ap (λ (t : List (List ℕ)). slot_in t c.in-Split.second.name) c.regions-in-Split-3.ensures)
    (subst (λ (xs : List Stmt). LaysBlock (map procedure_of c.args.self.now.procedures.now) c.args.self.now.names.now (block_of xs) c.args.blocks.now c.block-in-Split.new.blocks c.in_ok-block-in-Split.block) c.deref-in-Split.ensures.value c.in_ok-block-in-Split.ensures))

pub statement-returns-in_ok-block-in-Each : goal.statement-returns-in_ok-block-in-Each
statement-returns-in_ok-block-in-Each t c = as_declared c.in-Each.is (each_is c.in-Each.index c.in-Each.part c.in-Each.region c.in-Each.block)
    (lays_each (map procedure_of c.args.self.now.procedures.now) c.args.self.now.names.now c.in-Each.index c.in-Each.part c.in-Each.region (block_of c.in-Each.block.items) c.args.blocks.now c.block-in-Each.new.blocks
    c.slot-index.result c.slot-part.result c.slot-region-in-Each.result c.in_ok-block-in-Each.block
    (c.slot-index.ensures ∙ ap (λ (t : List (List ℕ)). slot_in t c.in-Each.index.name) c.locals.ensures) (c.slot-part.ensures ∙ ap (λ (t : List (List ℕ)). slot_in t c.in-Each.part.name) c.regions-in-Each.ensures) (c.slot-region-in-Each.ensures ∙ ap (λ (t : List (List ℕ)). slot_in t c.in-Each.region.name) c.regions-in-Each-2.ensures)
    (subst (λ (xs : List Stmt). LaysBlock (map procedure_of c.args.self.now.procedures.now) c.args.self.now.names.now (block_of xs) c.args.blocks.now c.block-in-Each.new.blocks c.in_ok-block-in-Each.block) c.deref-in-Each.ensures.value c.in_ok-block-in-Each.ensures))
