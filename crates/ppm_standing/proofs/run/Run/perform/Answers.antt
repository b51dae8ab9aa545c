-- Each arm does its statement.
use Rattle.std.proofs.Common.{◌∙◌, ap, subst, sym, map, List}
use Rattle.ppm_tree.specs.declared.tree.Stmt.{Stmt}
use Rattle.ppm_tree.specs.Tree.{Statement, If, While, Split, procedure_of, block_of, statement_of, expression_of}
use Rattle.ppm_tree.specs.Tree as tree
use Rattle.ppm_standing.specs.Shown.{run_of}
use Rattle.ppm_standing.specs.Standing.{Does, doing}
use Rattle.ppm_by_name.proofs.ArmLemmas.{if_is, while_is, split_is, each_is}
use Rattle.ppm_standing.proofs.run.Run.perform.Goals as goal

pub returns-in-If : goal.returns-in-If
returns-in-If c =
    let ps = map procedure_of c.args.procedures.now in
    let b = block_of c.args.rest.now in
    let w = run_of c.args.self.now in
    subst (λ (s : Statement). Does c.decide.result (run_of c.decide.new.self) (doing ps s b w)) (sym (ap statement_of c.in-If.is ∙ if_is c.in-If.test c.in-If.block c.in-If.otherwise))
    (subst (λ (xs : List Stmt). Does c.decide.result (run_of c.decide.new.self) (doing ps (If (expression_of c.in-If.test) (block_of xs) (block_of c.in-If.otherwise.items)) b w)) c.deref.ensures.value
    (subst (λ (xs : List Stmt). Does c.decide.result (run_of c.decide.new.self) (doing ps (If (expression_of c.in-If.test) (block_of c.deref.result.now) (block_of xs)) b w)) c.deref-in-If.ensures.value c.decide.ensures))

pub returns-in-While : goal.returns-in-While
returns-in-While c =
    let ps = map procedure_of c.args.procedures.now in
    let b = block_of c.args.rest.now in
    let w = run_of c.args.self.now in
    subst (λ (s : Statement). Does c.repeat.result (run_of c.repeat.new.self) (doing ps s b w)) (sym (ap statement_of c.in-While.is ∙ while_is c.in-While.test c.in-While.block))
    (subst (λ (xs : List Stmt). Does c.repeat.result (run_of c.repeat.new.self) (doing ps (While (expression_of c.in-While.test) (block_of xs)) b w)) c.deref-in-While.ensures.value c.repeat.ensures)

pub returns-in-Split : goal.returns-in-Split
returns-in-Split c =
    let ps = map procedure_of c.args.procedures.now in
    let b = block_of c.args.rest.now in
    let w = run_of c.args.self.now in
    subst (λ (s : Statement). Does c.split.result (run_of c.split.new.self) (doing ps s b w)) (sym (ap statement_of c.in-Split.is ∙ split_is c.in-Split.line c.in-Split.region c.in-Split.at c.in-Split.first c.in-Split.second c.in-Split.block))
    (subst (λ (xs : List Stmt). Does c.split.result (run_of c.split.new.self) (doing ps (Split c.in-Split.line c.in-Split.region (expression_of c.in-Split.at) c.in-Split.first c.in-Split.second (block_of xs)) b w)) c.deref-in-Split.ensures.value c.split.ensures)

pub returns-in-Each : goal.returns-in-Each
returns-in-Each c =
    let ps = map procedure_of c.args.procedures.now in
    let b = block_of c.args.rest.now in
    let w = run_of c.args.self.now in
    subst (λ (s : Statement). Does c.each.result (run_of c.each.new.self) (doing ps s b w)) (sym (ap statement_of c.in-Each.is ∙ each_is c.in-Each.index c.in-Each.part c.in-Each.region c.in-Each.block))
    (subst (λ (xs : List Stmt). Does c.each.result (run_of c.each.new.self) (doing ps (tree.Each c.in-Each.index c.in-Each.part c.in-Each.region (block_of xs)) b w)) c.deref-in-Each.ensures.value c.each.ensures)
