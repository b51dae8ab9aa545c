-- Each exit of the walk, by a rule of the meaning or of the points that are reached.
use Rattle.std.proofs.Common.{◌≡◌, ◌∙◌, ◌+◌, to_z, of_z, w64, true, false, ap, subst, sym, refl, rules, arith, map, drop, length, List, ℕ, ℤ}
use Rattle.ppm_tree.specs.declared.tree.Stmt.{Stmt}
use Rattle.ppm_tree.specs.Tree.{Procedure, Statement, Block, If, While, Split, procedure_of, block_of, statement_of, expression_of, side_of, give_of}
use Rattle.ppm_tree.specs.Tree as tree
use Rattle.ppm_tree.specs.State.{Region, Frame, delivered, procedure_named}
use Rattle.ppm_tree.specs.Values.{holds}
use Rattle.ppm_tree.specs.Meaning.{Plain, Ended, chosen, Runs, Sweeps}
use Rattle.ppm_trapped.specs.declared.halt.Halt.TheVariants as halt
use Rattle.ppm_by_name.specs.Frames.{Bound, frame_of, local_of, region_of}
use Rattle.ppm_trapped.specs.Sites.{Does, Reaches, Begins, Itself, InCall, InLeft, InRight, InParts, InElement, InBody}
use Rattle.ppm_trapped.specs.Walks.{HaltsIn, Walks, EndsBlock, EndsProcedure}
use Rattle.ppm_trapped.proofs.WalkLemmas.{exit_walks, halt_at, halt_in, Steps, let_walks, assign_walks, if_walks, while_walks, each_walks, call_ends, fork_ends, split_ends}
use Rattle.ppm_by_name.proofs.FrameLemmas.{parted, elemented}
use Rattle.ppm_trapped.proofs.WalkLemmas.{gives_none, gives_walks, Going, going, gone, gone_all, gone_halt, turning, turned, turned_all, test_halts, turn_halts, holds_so}
use Rattle.ppm_trapped.proofs.WalkLemmas.{sweeping, swept_on, swept_all}
use Rattle.ppm_by_name.proofs.ArmLemmas.{if_is, while_is, split_is, each_is, next_is, none_left}
use Rattle.ppm_trapped.proofs.walking.Scope.+walk.Goals as goal

pub decide-returns-in_err-test : goal.decide-returns-in_err-test
decide-returns-in_err-test t c =
    exit_walks (map procedure_of c.args.self.now.procedures.now) _ _ c.in_err-test.field-0.0 c.from_residual.result c.from_residual.ensures.1
    (halt_at (map procedure_of c.args.self.now.procedures.now) (procedure_of c.args.self.now.procedure.now) (Does (If (expression_of c.args.test.now) (block_of c.args.block.now) (block_of c.args.otherwise.now))) (frame_of c.args.frame.now) c.args.store.now _ c.in_err-test.field-0.0 (Itself (procedure_of c.args.self.now.procedure.now) (If (expression_of c.args.test.now) (block_of c.args.block.now) (block_of c.args.otherwise.now)) (frame_of c.args.frame.now) c.args.store.now) c.in_err-test.ensures)

pub decide-returns : goal.decide-returns
decide-returns t c =
    if_walks (map procedure_of c.args.self.now.procedures.now) (procedure_of c.args.self.now.procedure.now) (expression_of c.args.test.now) (block_of c.args.block.now) (block_of c.args.otherwise.now) c.args.frame.now c.inner.new.frame c.args.store.now c.inner.new.store c.in_ok-test.test c.inner.result c.in_ok-test.ensures
    (subst (λ (b : Block). Walks (map procedure_of c.args.self.now.procedures.now) (λ (u : Unit {0}). EndsBlock (map procedure_of c.args.self.now.procedures.now) b c.args.frame.now c.args.store.now c.inner.new.frame c.inner.new.store) (Reaches (map procedure_of c.args.self.now.procedures.now) (procedure_of c.args.self.now.procedure.now) b (frame_of c.args.frame.now) c.args.store.now) c.inner.result)
    (c.choose.ensures ∙ ap (λ (v : ℤ). chosen (holds v) (block_of c.args.block.now) (block_of c.args.otherwise.now)) (let r : to_z w64 (of_z w64 c.in_ok-test.test) ≡ c.in_ok-test.test = search rules in r)) c.inner.ensures)

pub call-returns-in_err-callee : goal.call-returns-in_err-callee
call-returns-in_err-callee t c =
    exit_walks (map procedure_of c.args.self.now.procedures.now) _ _ c.in_err-callee.field-0.0 c.from_residual.result c.from_residual.ensures.1
    (halt_at (map procedure_of c.args.self.now.procedures.now) (procedure_of c.args.self.now.procedure.now) (Does (tree.Call (side_of c.args.side.now))) (frame_of c.args.frame.now) c.args.store.now _ c.in_err-callee.field-0.0 (Itself (procedure_of c.args.self.now.procedure.now) (tree.Call (side_of c.args.side.now)) (frame_of c.args.frame.now) c.args.store.now) c.in_err-callee.ensures)

pub call-returns-in_err-value : goal.call-returns-in_err-value
call-returns-in_err-value t c =
    exit_walks (map procedure_of c.args.self.now.procedures.now) _ _ c.in_err-value.field-0.0 c.from_residual-in_err-value.result c.from_residual-in_err-value.ensures.1
    (halt_in (map procedure_of c.args.self.now.procedures.now) (Begins (map procedure_of c.args.self.now.procedures.now) (procedure_named (map procedure_of c.args.self.now.procedures.now) c.args.side.now.callee.name) (frame_of c.in_ok-callee.callee) c.args.store.now) _ c.in_err-value.field-0.0 (λ z m. InCall (procedure_of c.args.self.now.procedure.now) (side_of c.args.side.now) (frame_of c.args.frame.now) (frame_of c.in_ok-callee.callee) c.args.store.now z c.in_ok-callee.ensures m) c.in_err-value.ensures)

pub call-returns-in_err-deliver : goal.call-returns-in_err-deliver
call-returns-in_err-deliver t c =
    exit_walks (map procedure_of c.args.self.now.procedures.now) _ _ halt.NoMemory c.from_residual-in_err-deliver.result c.from_residual-in_err-deliver.ensures.1
    (tt)

pub call-returns : goal.call-returns
call-returns t c =
    call_ends (map procedure_of c.args.self.now.procedures.now) (procedure_of c.args.self.now.procedure.now) (side_of c.args.side.now) c.args.frame.now c.deliver.new.self (frame_of c.in_ok-callee.callee) c.args.store.now c.run.new.store c.in_ok-value.value c.in_ok-callee.ensures c.in_ok-value.ensures
    (c.in_ok-deliver.ensures.frame ∙ ap (λ (v : ℤ). delivered (side_of c.args.side.now).target v (frame_of c.args.frame.now)) (let r : to_z w64 (of_z w64 c.in_ok-value.value) ≡ c.in_ok-value.value = search rules in r)) c.in_ok-deliver.ensures.regions

pub fork-returns-in_err-one : goal.fork-returns-in_err-one
fork-returns-in_err-one t c =
    exit_walks (map procedure_of c.args.self.now.procedures.now) _ _ c.in_err-one.field-0.0 c.from_residual.result c.from_residual.ensures.1
    (halt_at (map procedure_of c.args.self.now.procedures.now) (procedure_of c.args.self.now.procedure.now) (Does (tree.Fork (side_of c.args.left.now) (side_of c.args.right.now))) (frame_of c.args.frame.now) c.args.store.now _ c.in_err-one.field-0.0 (Itself (procedure_of c.args.self.now.procedure.now) (tree.Fork (side_of c.args.left.now) (side_of c.args.right.now)) (frame_of c.args.frame.now) c.args.store.now) c.in_err-one.ensures)

pub fork-returns-in_err-first : goal.fork-returns-in_err-first
fork-returns-in_err-first t c =
    exit_walks (map procedure_of c.args.self.now.procedures.now) _ _ c.in_err-first.field-0.0 c.from_residual-in_err-first.result c.from_residual-in_err-first.ensures.1
    (halt_in (map procedure_of c.args.self.now.procedures.now) (Begins (map procedure_of c.args.self.now.procedures.now) (procedure_named (map procedure_of c.args.self.now.procedures.now) c.args.left.now.callee.name) (frame_of c.in_ok-one.one) c.args.store.now) _ c.in_err-first.field-0.0 (λ z m. InLeft (procedure_of c.args.self.now.procedure.now) (side_of c.args.left.now) (side_of c.args.right.now) (frame_of c.args.frame.now) (frame_of c.in_ok-one.one) (frame_of c.in_ok-one.other) c.args.store.now z c.in_ok-one.ensures m) c.in_err-first.ensures)

pub fork-returns-in_err-second : goal.fork-returns-in_err-second
fork-returns-in_err-second t c =
    exit_walks (map procedure_of c.args.self.now.procedures.now) _ _ c.in_err-second.field-0.0 c.from_residual-in_err-second.result c.from_residual-in_err-second.ensures.1
    (halt_in (map procedure_of c.args.self.now.procedures.now) (Begins (map procedure_of c.args.self.now.procedures.now) (procedure_named (map procedure_of c.args.self.now.procedures.now) c.args.right.now.callee.name) (frame_of c.in_ok-one.other) c.run.new.store) _ c.in_err-second.field-0.0 (λ z m. InRight (procedure_of c.args.self.now.procedure.now) (side_of c.args.left.now) (side_of c.args.right.now) (frame_of c.args.frame.now) (frame_of c.in_ok-one.one) (frame_of c.in_ok-one.other) c.args.store.now c.run.new.store c.in_ok-first.first c.in_ok-first.ensures.counts z c.in_ok-one.ensures c.in_ok-first.ensures.enters m) c.in_err-second.ensures)

pub fork-returns-in_err-deliver : goal.fork-returns-in_err-deliver
fork-returns-in_err-deliver t c =
    exit_walks (map procedure_of c.args.self.now.procedures.now) _ _ halt.NoMemory c.from_residual-in_err-deliver.result c.from_residual-in_err-deliver.ensures.1
    (tt)

pub fork-returns-in_err-deliver-2 : goal.fork-returns-in_err-deliver-2
fork-returns-in_err-deliver-2 t c =
    exit_walks (map procedure_of c.args.self.now.procedures.now) _ _ halt.NoMemory c.from_residual-in_err-deliver-2.result c.from_residual-in_err-deliver-2.ensures.1
    (tt)

pub fork-returns : goal.fork-returns
fork-returns t c =
    fork_ends (map procedure_of c.args.self.now.procedures.now) (procedure_of c.args.self.now.procedure.now) (side_of c.args.left.now) (side_of c.args.right.now) c.args.frame.now c.deliver.new.self c.deliver-2.new.self (frame_of c.in_ok-one.one) (frame_of c.in_ok-one.other) c.args.store.now c.run.new.store c.run-2.new.store c.in_ok-first.first c.in_ok-second.second c.in_ok-one.ensures c.in_ok-first.ensures c.in_ok-second.ensures
    (c.in_ok-deliver.ensures.frame ∙ ap (λ (v : ℤ). delivered (side_of c.args.left.now).target v (frame_of c.args.frame.now)) (let r : to_z w64 (of_z w64 c.in_ok-first.first) ≡ c.in_ok-first.first = search rules in r)) c.in_ok-deliver.ensures.regions
    (c.in_ok-deliver-2.ensures.frame ∙ ap (λ (v : ℤ). delivered (side_of c.args.right.now).target v (frame_of c.deliver.new.self)) (let r : to_z w64 (of_z w64 c.in_ok-second.second) ≡ c.in_ok-second.second = search rules in r)) c.in_ok-deliver-2.ensures.regions

pub block-statements-init : goal.block-statements-init
block-statements-init t c =
    going (map procedure_of c.args.self.now.procedures.now) (procedure_of c.args.self.now.procedure.now) (block_of c.args.block.now) c.args.frame.now c.args.store.now

pub block-returns-in_err-statement : goal.block-returns-in_err-statement
block-returns-in_err-statement t c =
    gone_halt (map procedure_of c.args.self.now.procedures.now) (procedure_of c.args.self.now.procedure.now) (block_of c.args.block.now) (statement_of c.statement-item.result) (block_of (drop (c.statements.statement-index + 1) c.args.block.now)) c.args.frame.now c.statements.frame c.args.store.now c.statements.store _ c.in_err-statement.field-0.0 c.from_residual.result
    (subst (λ (b : Block). Going (map procedure_of c.args.self.now.procedures.now) (procedure_of c.args.self.now.procedure.now) (block_of c.args.block.now) b c.args.frame.now c.args.store.now c.statements.frame c.statements.store) (next_is c.args.block.now c.statements.statement-index c.statement-item.result c.statements-test.true c.statement-item.is) c.statements.invariant) c.from_residual.ensures.1 c.in_err-statement.ensures

pub block-statements-preserved : goal.block-statements-preserved
block-statements-preserved t c =
    gone (map procedure_of c.args.self.now.procedures.now) (procedure_of c.args.self.now.procedure.now) (block_of c.args.block.now) (statement_of c.statement-item.result) (block_of (drop (c.statements.statement-index + 1) c.args.block.now)) c.args.frame.now c.statements.frame c.statement.new.frame c.args.store.now c.statements.store c.statement.new.store
    (subst (λ (b : Block). Going (map procedure_of c.args.self.now.procedures.now) (procedure_of c.args.self.now.procedure.now) (block_of c.args.block.now) b c.args.frame.now c.args.store.now c.statements.frame c.statements.store) (next_is c.args.block.now c.statements.statement-index c.statement-item.result c.statements-test.true c.statement-item.is) c.statements.invariant) c.in_ok-statement.ensures

pub block-returns : goal.block-returns
block-returns t c =
    gone_all (map procedure_of c.args.self.now.procedures.now) (procedure_of c.args.self.now.procedure.now) (block_of c.args.block.now) c.args.frame.now c.statements.frame c.args.store.now c.statements.store
    (subst (λ (b : Block). Going (map procedure_of c.args.self.now.procedures.now) (procedure_of c.args.self.now.procedure.now) (block_of c.args.block.now) b c.args.frame.now c.args.store.now c.statements.frame c.statements.store) (none_left c.args.block.now c.statements.statement-index c.statements-test.false) c.statements.invariant)

pub repeat-tests-init : goal.repeat-tests-init
repeat-tests-init t c =
    turning (map procedure_of c.args.self.now.procedures.now) (procedure_of c.args.self.now.procedure.now) (expression_of c.args.test.now) (block_of c.args.block.now) c.args.frame.now c.args.store.now

pub repeat-returns-in_err-value : goal.repeat-returns-in_err-value
repeat-returns-in_err-value t c =
    test_halts (map procedure_of c.args.self.now.procedures.now) (procedure_of c.args.self.now.procedure.now) (expression_of c.args.test.now) (block_of c.args.block.now) c.args.frame.now c.tests.frame c.args.store.now c.tests.store _ c.in_err-value.field-0.0 c.from_residual.result c.tests.invariant c.from_residual.ensures.1 c.in_err-value.ensures

pub repeat-returns-then-not-holds : goal.repeat-returns-then-not-holds
repeat-returns-then-not-holds t c =
    turned_all (map procedure_of c.args.self.now.procedures.now) (procedure_of c.args.self.now.procedure.now) (expression_of c.args.test.now) (block_of c.args.block.now) c.args.frame.now c.tests.frame c.args.store.now c.tests.store c.in_ok-value.value c.tests.invariant c.in_ok-value.ensures (holds_so c.in_ok-value.value _ c.holds.result false (let r : to_z w64 (of_z w64 c.in_ok-value.value) ≡ c.in_ok-value.value = search rules in r) c.holds.ensures c.if-not-holds.true)

pub repeat-returns-in_err-inner : goal.repeat-returns-in_err-inner
repeat-returns-in_err-inner t c =
    turn_halts (map procedure_of c.args.self.now.procedures.now) (procedure_of c.args.self.now.procedure.now) (expression_of c.args.test.now) (block_of c.args.block.now) c.args.frame.now c.tests.frame c.args.store.now c.tests.store c.in_ok-value.value _ c.in_err-inner.field-0.0 c.from_residual-in_err-inner.result c.tests.invariant c.in_ok-value.ensures
    (holds_so c.in_ok-value.value _ c.holds.result true (let r : to_z w64 (of_z w64 c.in_ok-value.value) ≡ c.in_ok-value.value = search rules in r) c.holds.ensures c.if-not-holds.false) c.from_residual-in_err-inner.ensures.1 c.in_err-inner.ensures

pub repeat-tests-preserved : goal.repeat-tests-preserved
repeat-tests-preserved t c =
    turned (map procedure_of c.args.self.now.procedures.now) (procedure_of c.args.self.now.procedure.now) (expression_of c.args.test.now) (block_of c.args.block.now) c.args.frame.now c.tests.frame c.inner.new.frame c.args.store.now c.tests.store c.inner.new.store c.in_ok-value.value c.tests.invariant c.in_ok-value.ensures
    (holds_so c.in_ok-value.value _ c.holds.result true (let r : to_z w64 (of_z w64 c.in_ok-value.value) ≡ c.in_ok-value.value = search rules in r) c.holds.ensures c.if-not-holds.false) c.in_ok-inner.ensures

pub body-returns-in_err-block : goal.body-returns-in_err-block
body-returns-in_err-block t c =
    exit_walks (map procedure_of c.args.self.now.procedures.now) _ _ c.in_err-block.field-0.0 c.from_residual.result c.from_residual.ensures.1
    (halt_in (map procedure_of c.args.self.now.procedures.now) (Reaches (map procedure_of c.args.self.now.procedures.now) (procedure_of c.args.self.now.procedure.now) (block_of c.args.self.now.procedure.now.body.items) (frame_of c.args.frame) c.args.store.now) _ c.in_err-block.field-0.0 (λ z m. InBody (procedure_of c.args.self.now.procedure.now) (frame_of c.args.frame) c.args.store.now z m)
    (subst (λ (xs : List Stmt). HaltsIn (map procedure_of c.args.self.now.procedures.now) (Reaches (map procedure_of c.args.self.now.procedures.now) (procedure_of c.args.self.now.procedure.now) (block_of xs) (frame_of c.args.frame) c.args.store.now) c.in_err-block.field-0.0) c.deref.ensures.value c.in_err-block.ensures))

pub body-returns-in-None : goal.body-returns-in-None
body-returns-in-None t c =
    gives_none (map procedure_of c.args.self.now.procedures.now) (procedure_of c.args.self.now.procedure.now) c.args.frame c.block.new.frame c.args.store.now c.block.new.store (ap give_of c.in-None.is) (subst (λ (xs : List Stmt). EndsBlock (map procedure_of c.args.self.now.procedures.now) (block_of xs) c.args.frame c.args.store.now c.block.new.frame c.block.new.store) c.deref.ensures.value c.in_ok-block.ensures)

pub body-returns : goal.body-returns
body-returns t c =
    gives_walks (map procedure_of c.args.self.now.procedures.now) (procedure_of c.args.self.now.procedure.now) c.args.frame c.block.new.frame c.args.store.now c.block.new.store (record { line = c.in-Some.give.line; value = expression_of c.in-Some.give.value }) c.value.result (ap give_of c.in-Some.is) (subst (λ (xs : List Stmt). EndsBlock (map procedure_of c.args.self.now.procedures.now) (block_of xs) c.args.frame c.args.store.now c.block.new.frame c.block.new.store) c.deref.ensures.value c.in_ok-block.ensures) c.value.ensures

pub run-returns-in-Some : goal.run-returns-in-Some
run-returns-in-Some t c =
    subst (λ (m : Procedure). Walks (map procedure_of c.args.self.now.procedures.now) (λ (v : ℤ). EndsProcedure (map procedure_of c.args.self.now.procedures.now) m (frame_of c.args.frame) c.args.store.now v c.body.new.store) (Begins (map procedure_of c.args.self.now.procedures.now) m (frame_of c.args.frame) c.args.store.now) c.body.result) (sym c.in-Some.ensures)
    (let e = c.new-scope.ensures in let f = c.body.ensures in search (rules, e, f))

pub split-returns-in_err-count : goal.split-returns-in_err-count
split-returns-in_err-count t c =
    exit_walks (map procedure_of c.args.self.now.procedures.now) _ _ c.in_err-count.field-0.0 c.from_residual.result c.from_residual.ensures.1
    (halt_at (map procedure_of c.args.self.now.procedures.now) (procedure_of c.args.self.now.procedure.now) (Does (Split c.args.split.line c.args.split.region.now (expression_of c.args.split.at.now) c.args.split.first.now c.args.split.second.now (block_of c.args.split.block.now))) (frame_of c.args.frame.now) c.args.store.now _ c.in_err-count.field-0.0 (Itself (procedure_of c.args.self.now.procedure.now) (Split c.args.split.line c.args.split.region.now (expression_of c.args.split.at.now) c.args.split.first.now c.args.split.second.now (block_of c.args.split.block.now)) (frame_of c.args.frame.now) c.args.store.now) c.in_err-count.ensures.value)

pub split-returns-in_err-lend : goal.split-returns-in_err-lend
split-returns-in_err-lend t c =
    exit_walks (map procedure_of c.args.self.now.procedures.now) _ _ halt.NoMemory c.from_residual-in_err-lend.result c.from_residual-in_err-lend.ensures.1
    (tt)

pub split-returns-in_err-lend-2 : goal.split-returns-in_err-lend-2
split-returns-in_err-lend-2 t c =
    exit_walks (map procedure_of c.args.self.now.procedures.now) _ _ halt.NoMemory c.from_residual-in_err-lend-2.result c.from_residual-in_err-lend-2.ensures.1
    (tt)

pub split-returns-in_err-inner : goal.split-returns-in_err-inner
split-returns-in_err-inner t c =
    exit_walks (map procedure_of c.args.self.now.procedures.now) _ _ c.in_err-inner.field-0.0 c.from_residual-in_err-inner.result c.from_residual-in_err-inner.ensures.1
    (halt_in (map procedure_of c.args.self.now.procedures.now) (Reaches (map procedure_of c.args.self.now.procedures.now) (procedure_of c.args.self.now.procedure.now) (block_of c.args.split.block.now) (frame_of c.lend-2.new.self) c.args.store.now) _ c.in_err-inner.field-0.0 (λ z m. InParts (procedure_of c.args.self.now.procedure.now) c.args.split.line c.args.split.region.now (expression_of c.args.split.at.now) c.args.split.first.now c.args.split.second.now (block_of c.args.split.block.now) (frame_of c.args.frame.now) c.args.store.now c.in_ok-count.count z c.in_ok-count.ensures.value
    (subst (λ (b : Bound). Reaches (map procedure_of c.args.self.now.procedures.now) (procedure_of c.args.self.now.procedure.now) (block_of c.args.split.block.now) (frame_of b) c.args.store.now z) (parted c.args.frame.now c.lend.new.self c.lend-2.new.self c.args.split.first.now.name c.args.split.second.now.name (region_of c.args.frame.now.regions c.args.split.region.now.name) c.region-region.result c.first.result c.second.result c.in_ok-count.count c.region-region.ensures c.first.ensures c.second.ensures c.in_ok-lend.ensures c.in_ok-lend-2.ensures) m)) c.in_err-inner.ensures)

pub split-returns : goal.split-returns
split-returns t c =
    split_ends (map procedure_of c.args.self.now.procedures.now) (procedure_of c.args.self.now.procedure.now) c.args.split.line c.args.split.region.now (expression_of c.args.split.at.now) c.args.split.first.now c.args.split.second.now (block_of c.args.split.block.now) c.args.frame.now c.inner.new.frame c.take_back-2.new.self c.args.store.now c.inner.new.store c.in_ok-count.count c.in_ok-count.ensures.value
    (subst (λ (b : Bound). EndsBlock (map procedure_of c.args.self.now.procedures.now) (block_of c.args.split.block.now) b c.args.store.now c.inner.new.frame c.inner.new.store) (parted c.args.frame.now c.lend.new.self c.lend-2.new.self c.args.split.first.now.name c.args.split.second.now.name (region_of c.args.frame.now.regions c.args.split.region.now.name) c.region-region.result c.first.result c.second.result c.in_ok-count.count c.region-region.ensures c.first.ensures c.second.ensures c.in_ok-lend.ensures c.in_ok-lend-2.ensures) c.in_ok-inner.ensures)
    (c.take_back-2.ensures.locals ∙ c.take_back.ensures.locals)
    (c.take_back-2.ensures.regions _ _ (c.take_back.ensures.regions _ _ (subst (λ (b : Bound). EndsBlock (map procedure_of c.args.self.now.procedures.now) (block_of c.args.split.block.now) b c.args.store.now c.inner.new.frame c.inner.new.store) (parted c.args.frame.now c.lend.new.self c.lend-2.new.self c.args.split.first.now.name c.args.split.second.now.name (region_of c.args.frame.now.regions c.args.split.region.now.name) c.region-region.result c.first.result c.second.result c.in_ok-count.count c.region-region.ensures c.first.ensures c.second.ensures c.in_ok-lend.ensures c.in_ok-lend-2.ensures) c.in_ok-inner.ensures).regions))

pub sweep-elements-init : goal.sweep-elements-init
sweep-elements-init t c =
    sweeping (map procedure_of c.args.self.now.procedures.now) (procedure_of c.args.self.now.procedure.now) c.args.each.index.now c.args.each.part.now (block_of c.args.each.block.now) (region_of c.args.frame.now.regions c.args.each.region.now.name) (frame_of c.args.frame.now) c.args.store.now

pub sweep-returns-in_err-copy : goal.sweep-returns-in_err-copy
sweep-returns-in_err-copy t c =
    exit_walks (map procedure_of c.args.self.now.procedures.now) _ _ halt.NoMemory c.from_residual.result c.from_residual.ensures.1
    (tt)

pub sweep-returns-in_err-set_index : goal.sweep-returns-in_err-set_index
sweep-returns-in_err-set_index t c =
    exit_walks (map procedure_of c.args.self.now.procedures.now) _ _ halt.NoMemory c.from_residual-in_err-set_index.result c.from_residual-in_err-set_index.ensures.1
    (tt)

pub sweep-returns-in_err-lend : goal.sweep-returns-in_err-lend
sweep-returns-in_err-lend t c =
    exit_walks (map procedure_of c.args.self.now.procedures.now) _ _ halt.NoMemory c.from_residual-in_err-lend.result c.from_residual-in_err-lend.ensures.1
    (tt)

pub sweep-returns-in_err-inner : goal.sweep-returns-in_err-inner
sweep-returns-in_err-inner t c =
    exit_walks (map procedure_of c.args.self.now.procedures.now) _ _ c.in_err-inner.field-0.0 c.from_residual-in_err-inner.result c.from_residual-in_err-inner.ensures.1
    (let w = swept_all (map procedure_of c.args.self.now.procedures.now) (procedure_of c.args.self.now.procedure.now) c.args.each.index.now c.args.each.part.now (block_of c.args.each.block.now) (region_of c.args.frame.now.regions c.args.each.region.now.name) (frame_of c.args.frame.now) c.args.store.now c.elements.store c.elements.at c.elements.invariant in
    halt_in (map procedure_of c.args.self.now.procedures.now) (Reaches (map procedure_of c.args.self.now.procedures.now) (procedure_of c.args.self.now.procedure.now) (block_of c.args.each.block.now) (frame_of c.lend.new.self) c.elements.store) _ c.in_err-inner.field-0.0 (λ z m. InElement (procedure_of c.args.self.now.procedure.now) c.args.each.index.now c.args.each.part.now c.args.each.region.now (block_of c.args.each.block.now) (frame_of c.args.frame.now) c.args.store.now c.elements.store c.elements.at w.0 z (let l = c.elements-test.true in let e = c.length-at-end.ensures.value in let g : c.region-region.result.length ≡ (region_of c.args.frame.now.regions c.args.each.region.now.name).length = ap (λ (r : Region). r.length) c.region-region.ensures in omega (arith, l, e, g)) w.1
    (subst (λ (f : Frame). Reaches (map procedure_of c.args.self.now.procedures.now) (procedure_of c.args.self.now.procedure.now) (block_of c.args.each.block.now) f c.elements.store z) (elemented c.args.frame.now c.in_ok-copy.copy c.set_index.new.self c.lend.new.self c.args.each.index.now.name c.args.each.part.now.name (region_of c.args.frame.now.regions c.args.each.region.now.name) c.region-region.result c.element.result c.elements.at c.in_ok-copy.ensures c.in_ok-set_index.ensures c.region-region.ensures c.element.ensures c.in_ok-lend.ensures) m)) c.in_err-inner.ensures)

pub sweep-elements-preserved : goal.sweep-elements-preserved
sweep-elements-preserved t c =
    swept_on (map procedure_of c.args.self.now.procedures.now) (procedure_of c.args.self.now.procedure.now) c.args.each.index.now c.args.each.part.now (block_of c.args.each.block.now) (region_of c.args.frame.now.regions c.args.each.region.now.name) (frame_of c.args.frame.now) c.args.store.now c.elements.store c.inner.new.store c.elements.at (local_of c.inner.new.frame.locals) c.in_ok-inner.ensures.counts c.elements.invariant
    (subst (λ (f : Frame). Runs Plain (map procedure_of c.args.self.now.procedures.now) (block_of c.args.each.block.now) f c.elements.store c.in_ok-inner.ensures.counts (Ended (local_of c.inner.new.frame.locals) c.inner.new.store)) (elemented c.args.frame.now c.in_ok-copy.copy c.set_index.new.self c.lend.new.self c.args.each.index.now.name c.args.each.part.now.name (region_of c.args.frame.now.regions c.args.each.region.now.name) c.region-region.result c.element.result c.elements.at c.in_ok-copy.ensures c.in_ok-set_index.ensures c.region-region.ensures c.element.ensures c.in_ok-lend.ensures) c.in_ok-inner.ensures.runs)

pub sweep-returns : goal.sweep-returns
sweep-returns t c =
    let w = swept_all (map procedure_of c.args.self.now.procedures.now) (procedure_of c.args.self.now.procedure.now) c.args.each.index.now c.args.each.part.now (block_of c.args.each.block.now) (region_of c.args.frame.now.regions c.args.each.region.now.name) (frame_of c.args.frame.now) c.args.store.now c.elements.store c.elements.at c.elements.invariant in
    let e : c.elements.at ≡ (region_of c.args.frame.now.regions c.args.each.region.now.name).length = (let l = c.elements-test.false in let m = c.elements.auto.at-end in let k = c.length-at-end.ensures.value in
    let g : c.region-region.result.length ≡ (region_of c.args.frame.now.regions c.args.each.region.now.name).length = ap (λ (r : Region). r.length) c.region-region.ensures in omega (arith, l, m, k, g)) in
    record { counts = w.0; sweeps = subst (λ (n : ℕ). Sweeps Plain (map procedure_of c.args.self.now.procedures.now) c.args.each.index.now c.args.each.part.now (block_of c.args.each.block.now) (region_of c.args.frame.now.regions c.args.each.region.now.name) (frame_of c.args.frame.now) 0 n c.args.store.now w.0 (Ended (local_of c.args.frame.now.locals) c.elements.store)) e w.1 }

pub statement-returns-in-Let : goal.statement-returns-in-Let
statement-returns-in-Let t c =
    subst (λ (s : Statement). Steps (map procedure_of c.args.self.now.procedures.now) (procedure_of c.args.self.now.procedure.now) s c.args.frame.now c.args.store.now c.assign.new.frame c.args.store.now c.assign.result) (sym (ap statement_of c.in-Let.is ∙ refl))
    (let_walks (map procedure_of c.args.self.now.procedures.now) (procedure_of c.args.self.now.procedure.now) c.in-Let.name (expression_of c.in-Let.e) c.args.frame.now c.assign.new.frame c.args.store.now c.assign.result c.assign.ensures)

pub statement-returns-in-Assign : goal.statement-returns-in-Assign
statement-returns-in-Assign t c =
    subst (λ (s : Statement). Steps (map procedure_of c.args.self.now.procedures.now) (procedure_of c.args.self.now.procedure.now) s c.args.frame.now c.args.store.now c.assign-in-Assign.new.frame c.args.store.now c.assign-in-Assign.result) (sym (ap statement_of c.in-Assign.is ∙ refl))
    (assign_walks (map procedure_of c.args.self.now.procedures.now) (procedure_of c.args.self.now.procedure.now) c.in-Assign.name (expression_of c.in-Assign.e) c.args.frame.now c.assign-in-Assign.new.frame c.args.store.now c.assign-in-Assign.result c.assign-in-Assign.ensures)

pub statement-returns-in-Put : goal.statement-returns-in-Put
statement-returns-in-Put t c =
    subst (λ (s : Statement). Steps (map procedure_of c.args.self.now.procedures.now) (procedure_of c.args.self.now.procedure.now) s c.args.frame.now c.args.store.now c.args.frame.now c.put.new.store c.put.result) (sym (ap statement_of c.in-Put.is ∙ refl))
    (c.put.ensures)

pub statement-returns-in-If : goal.statement-returns-in-If
statement-returns-in-If t c =
    subst (λ (s : Statement). Steps (map procedure_of c.args.self.now.procedures.now) (procedure_of c.args.self.now.procedure.now) s c.args.frame.now c.args.store.now c.decide.new.frame c.decide.new.store c.decide.result) (sym (ap statement_of c.in-If.is ∙ if_is c.in-If.test c.in-If.block c.in-If.otherwise))
    (subst (λ (xs : List Stmt). Steps (map procedure_of c.args.self.now.procedures.now) (procedure_of c.args.self.now.procedure.now) (If (expression_of c.in-If.test) (block_of xs) (block_of c.in-If.otherwise.items)) c.args.frame.now c.args.store.now c.decide.new.frame c.decide.new.store c.decide.result) c.deref.ensures.value
    (subst (λ (xs : List Stmt). Steps (map procedure_of c.args.self.now.procedures.now) (procedure_of c.args.self.now.procedure.now) (If (expression_of c.in-If.test) (block_of c.deref.result.now) (block_of xs)) c.args.frame.now c.args.store.now c.decide.new.frame c.decide.new.store c.decide.result) c.deref-in-If.ensures.value c.decide.ensures))

pub statement-returns-in-While : goal.statement-returns-in-While
statement-returns-in-While t c =
    subst (λ (s : Statement). Steps (map procedure_of c.args.self.now.procedures.now) (procedure_of c.args.self.now.procedure.now) s c.args.frame.now c.args.store.now c.repeat.new.frame c.repeat.new.store c.repeat.result) (sym (ap statement_of c.in-While.is ∙ while_is c.in-While.test c.in-While.block))
    (subst (λ (xs : List Stmt). Steps (map procedure_of c.args.self.now.procedures.now) (procedure_of c.args.self.now.procedure.now) (While (expression_of c.in-While.test) (block_of xs)) c.args.frame.now c.args.store.now c.repeat.new.frame c.repeat.new.store c.repeat.result) c.deref-in-While.ensures.value
    (while_walks (map procedure_of c.args.self.now.procedures.now) (procedure_of c.args.self.now.procedure.now) (expression_of c.in-While.test) (block_of c.deref-in-While.result.now) c.args.frame.now c.repeat.new.frame c.args.store.now c.repeat.new.store c.repeat.result c.repeat.ensures))

pub statement-returns-in-Call : goal.statement-returns-in-Call
statement-returns-in-Call t c =
    subst (λ (s : Statement). Steps (map procedure_of c.args.self.now.procedures.now) (procedure_of c.args.self.now.procedure.now) s c.args.frame.now c.args.store.now c.call.new.frame c.call.new.store c.call.result) (sym (ap statement_of c.in-Call.is ∙ refl))
    (c.call.ensures)

pub statement-returns-in-Fork : goal.statement-returns-in-Fork
statement-returns-in-Fork t c =
    subst (λ (s : Statement). Steps (map procedure_of c.args.self.now.procedures.now) (procedure_of c.args.self.now.procedure.now) s c.args.frame.now c.args.store.now c.fork.new.frame c.fork.new.store c.fork.result) (sym (ap statement_of c.in-Fork.is ∙ refl))
    (c.fork.ensures)

pub statement-returns-in-Split : goal.statement-returns-in-Split
statement-returns-in-Split t c =
    subst (λ (s : Statement). Steps (map procedure_of c.args.self.now.procedures.now) (procedure_of c.args.self.now.procedure.now) s c.args.frame.now c.args.store.now c.split.new.frame c.split.new.store c.split.result) (sym (ap statement_of c.in-Split.is ∙ split_is c.in-Split.line c.in-Split.region c.in-Split.at c.in-Split.first c.in-Split.second c.in-Split.block))
    (subst (λ (xs : List Stmt). Steps (map procedure_of c.args.self.now.procedures.now) (procedure_of c.args.self.now.procedure.now) (Split c.in-Split.line c.in-Split.region (expression_of c.in-Split.at) c.in-Split.first c.in-Split.second (block_of xs)) c.args.frame.now c.args.store.now c.split.new.frame c.split.new.store c.split.result) c.deref-in-Split.ensures.value c.split.ensures)

pub statement-returns-in-Each : goal.statement-returns-in-Each
statement-returns-in-Each t c =
    subst (λ (s : Statement). Steps (map procedure_of c.args.self.now.procedures.now) (procedure_of c.args.self.now.procedure.now) s c.args.frame.now c.args.store.now c.args.frame.now c.sweep.new.store c.sweep.result) (sym (ap statement_of c.in-Each.is ∙ each_is c.in-Each.index c.in-Each.part c.in-Each.region c.in-Each.block))
    (subst (λ (xs : List Stmt). Steps (map procedure_of c.args.self.now.procedures.now) (procedure_of c.args.self.now.procedure.now) (tree.Each c.in-Each.index c.in-Each.part c.in-Each.region (block_of xs)) c.args.frame.now c.args.store.now c.args.frame.now c.sweep.new.store c.sweep.result) c.deref-in-Each.ensures.value
    (each_walks (map procedure_of c.args.self.now.procedures.now) (procedure_of c.args.self.now.procedure.now) c.in-Each.index c.in-Each.part c.in-Each.region (block_of c.deref-in-Each.result.now) c.args.frame.now c.args.store.now c.sweep.new.store c.sweep.result c.sweep.ensures))
