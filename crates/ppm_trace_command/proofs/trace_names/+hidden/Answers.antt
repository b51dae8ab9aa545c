use Rattle.std.proofs.Common.{◌++◌, [], ◌∷◌, refl, sym, ap, ◌∙◌, arith, append_assoc}
use Rattle.std.proofs.lemmas.Result.{on_ok_weaker}
use Rattle.ppm_tree.specs.Tree.{block_of}
use Rattle.ppm_cut.specs.Counts.{own_count, hidden_count}
use Rattle.ppm_cut.proofs.Stmts.{if_is, while_is, split_is, each_is}
use Rattle.ppm_naming.specs.declared.names.ProcedureName.TheVariants as name
use Rattle.ppm_trace_command.specs.TraceNames.{hidden_names, hidden_names_in}
use Rattle.ppm_trace_command.proofs.trace_names.+hidden.Goals as goal

pub push_hidden-push_hidden_in-requires : goal.push_hidden-push_hidden_in-requires
push_hidden-push_hidden_in-requires t c =
    let e = if_is c.args.statement.now c.in-If.field-0 c.in-If.holds c.in-If.other c.deref.result.now c.in-If.other.items c.in-If.is c.deref.ensures.value
    refl in
    (omega (arith, ap own_count e, ap hidden_count e), tt)

pub push_hidden-push_hidden_in-requires-in-If : goal.push_hidden-push_hidden_in-requires-in-If
push_hidden-push_hidden_in-requires-in-If t c =
    let e = if_is c.args.statement.now c.in-If.field-0 c.in-If.holds c.in-If.other c.deref.result.now c.deref-in-If.result.now c.in-If.is
    c.deref.ensures.value c.deref-in-If.ensures.value in
    (omega (arith, ap own_count e, ap hidden_count e), tt)

pub push_hidden-push_hidden_in-requires-in-While : goal.push_hidden-push_hidden_in-requires-in-While
push_hidden-push_hidden_in-requires-in-While t c =
    let e = while_is c.args.statement.now c.in-While.field-0 c.in-While.block c.deref-in-While.result.now c.in-While.is c.deref-in-While.ensures.value in
    (omega (arith, ap own_count e, ap hidden_count e), tt)

pub push_hidden-push_hidden_in-requires-in-Split : goal.push_hidden-push_hidden_in-requires-in-Split
push_hidden-push_hidden_in-requires-in-Split t c =
    let e = split_is c.args.statement.now c.in-Split.field-0 c.in-Split.field-1 c.in-Split.field-2 c.in-Split.field-3 c.in-Split.field-4 c.in-Split.block
    c.deref-in-Split.result.now c.in-Split.is c.deref-in-Split.ensures.value in
    (omega (arith, ap own_count e, ap hidden_count e), tt)

pub push_hidden-push_hidden_in-requires-in-Each : goal.push_hidden-push_hidden_in-requires-in-Each
push_hidden-push_hidden_in-requires-in-Each t c =
    let e = each_is c.args.statement.now c.in-Each.field-0 c.in-Each.field-1 c.in-Each.region c.in-Each.block c.deref-in-Each.result.now c.in-Each.is
    c.deref-in-Each.ensures.value in
    (omega (arith, ap own_count e, ap hidden_count e), tt)

-- the names of one block, and then those of the other
pub push_hidden-returns-in_ok-push_hidden_in-in-If : goal.push_hidden-returns-in_ok-push_hidden_in-in-If
push_hidden-returns-in_ok-push_hidden_in-in-If t c =
    let e = if_is c.args.statement.now c.in-If.field-0 c.in-If.holds c.in-If.other c.deref.result.now c.deref-in-If.result.now c.in-If.is
    c.deref.ensures.value c.deref-in-If.ensures.value in
    let old = c.args.names.now.items in
    let first = hidden_names_in (block_of c.deref.result.now) in
    let second = hidden_names_in (block_of c.deref-in-If.result.now) in
    on_ok_weaker c.push_hidden_in-in-If.result
    (λ d. d ∙ ap (λ xs. xs ++ second) c.in_ok-push_hidden_in-in-If.ensures ∙ append_assoc old first second ∙ ap (λ s. old ++ hidden_names s) (sym e))
    c.push_hidden_in-in-If.ensures

pub push_hidden-returns-in-While : goal.push_hidden-returns-in-While
push_hidden-returns-in-While t c =
    let e = while_is c.args.statement.now c.in-While.field-0 c.in-While.block c.deref-in-While.result.now c.in-While.is c.deref-in-While.ensures.value in
    on_ok_weaker c.push_hidden_in-in-While.result (λ d. d ∙ ap (λ s. c.args.names.now.items ++ hidden_names s) (sym e)) c.push_hidden_in-in-While.ensures

pub push_hidden-returns-in-Split : goal.push_hidden-returns-in-Split
push_hidden-returns-in-Split t c =
    let e = split_is c.args.statement.now c.in-Split.field-0 c.in-Split.field-1 c.in-Split.field-2 c.in-Split.field-3 c.in-Split.field-4 c.in-Split.block
    c.deref-in-Split.result.now c.in-Split.is c.deref-in-Split.ensures.value in
    on_ok_weaker c.push_hidden_in-in-Split.result (λ d. d ∙ ap (λ s. c.args.names.now.items ++ hidden_names s) (sym e)) c.push_hidden_in-in-Split.ensures

-- its own name, and then those of its block
pub push_hidden-returns-in_ok-push-in-Each : goal.push_hidden-returns-in_ok-push-in-Each
push_hidden-returns-in_ok-push-in-Each t c =
    let e = each_is c.args.statement.now c.in-Each.field-0 c.in-Each.field-1 c.in-Each.region c.in-Each.block c.deref-in-Each.result.now c.in-Each.is
    c.deref-in-Each.ensures.value in
    let old = c.args.names.now.items in
    let own = name.EachOf c.in-Each.region.line ∷ [] in
    let inner = hidden_names_in (block_of c.deref-in-Each.result.now) in
    on_ok_weaker c.push_hidden_in-in-Each.result
    (λ d. d ∙ ap (λ xs. xs ++ inner) c.in_ok-push-in-Each.ensures.items ∙ append_assoc old own inner ∙ ap (λ s. old ++ hidden_names s) (sym e))
    c.push_hidden_in-in-Each.ensures
