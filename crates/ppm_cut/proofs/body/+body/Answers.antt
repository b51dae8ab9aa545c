use Rattle.std.proofs.Common.{◌+◌, ◌++◌, [], ◌∷◌, refl, sym, ap, subst, ◌∙◌, arith, drop, map, length, append_assoc, length-append}
use Rattle.std.proofs.lemmas.Result.{on_ok_weaker}
use Rattle.ppm_tree.specs.Tree.{expression_of, statement_of, block_of, procedure_of}
use Rattle.ppm_cut_code.specs.Numbers.{end_of, hidden_behind_block, hidden_behind, behind}
use Rattle.ppm_cut_code.specs.Statements.{with_lets}
use Rattle.ppm_cut.specs.Counts.{own_count, own_count_in, hidden_count, hidden_count_in, IsShort, IsShortBlock}
use Rattle.ppm_cut.specs.Growth.{last_of}
use Rattle.ppm_cut_bounds.proofs.Blocks.{block_ahead}
use Rattle.ppm_cut.proofs.Stmts.{if_is, while_is, split_is, each_is}
use Rattle.ppm_cut.proofs.Bodies.{if_code, while_code, split_code_is, each_code_is, body_step, Extends, rest_of, extends_lets, lets_few}
use Rattle.ppm_cut.proofs.body.+body.Goals as goal

pub push_statement-end_of-first-requires : goal.push_statement-end_of-first-requires
push_statement-end_of-first-requires t c =
    let e = if_is c.args.statement.now c.in-If.test c.in-If.block c.in-If.other c.deref.result.now c.in-If.other.items c.in-If.is c.deref.ensures.value refl in
    record { counts = omega (arith, ap own_count e) }

pub push_statement-overflow_add-first : goal.push_statement-overflow_add-first
push_statement-overflow_add-first t c =
    let e = if_is c.args.statement.now c.in-If.test c.in-If.block c.in-If.other c.deref.result.now c.in-If.other.items c.in-If.is c.deref.ensures.value refl in
    omega (arith, ap own_count e)

pub push_statement-end_of-next-requires : goal.push_statement-end_of-next-requires
push_statement-end_of-next-requires t c =
    let e = if_is c.args.statement.now c.in-If.test c.in-If.block c.in-If.other c.deref.result.now c.deref-in-If.result.now c.in-If.is c.deref.ensures.value c.deref-in-If.ensures.value in
    record { counts = omega (arith, ap own_count e) }

pub push_statement-overflow_add-next : goal.push_statement-overflow_add-next
push_statement-overflow_add-next t c =
    let e = if_is c.args.statement.now c.in-If.test c.in-If.block c.in-If.other c.deref.result.now c.deref-in-If.result.now c.in-If.is c.deref.ensures.value c.deref-in-If.ensures.value in
    omega (arith, ap own_count e)

pub push_statement-hidden_behind_block-second-requires : goal.push_statement-hidden_behind_block-second-requires
push_statement-hidden_behind_block-second-requires t c =
    let e = if_is c.args.statement.now c.in-If.test c.in-If.block c.in-If.other c.deref-in-If-3.result.now c.in-If.other.items c.in-If.is c.deref-in-If-3.ensures.value refl in
    record { counts = omega (arith, ap hidden_count e) }

pub push_statement-push_block-requires : goal.push_statement-push_block-requires
push_statement-push_block-requires t c =
    let e = if_is c.args.statement.now c.in-If.test c.in-If.block c.in-If.other c.deref-in-If-2.result.now c.in-If.other.items c.in-If.is c.deref-in-If-2.ensures.value refl in
    (omega (arith, ap own_count e, ap hidden_count e), (omega (arith, ap own_count e, ap hidden_count e), (omega (arith, ap own_count e), (omega (arith, ap hidden_count e), ((subst IsShort e c.requires.short).1, tt)))))

pub push_statement-push_block-requires-in-If : goal.push_statement-push_block-requires-in-If
push_statement-push_block-requires-in-If t c =
    let e = if_is c.args.statement.now c.in-If.test c.in-If.block c.in-If.other c.deref-in-If-2.result.now c.deref-in-If-4.result.now c.in-If.is c.deref-in-If-2.ensures.value c.deref-in-If-4.ensures.value in
    let same = ap (λ xs. own_count_in (block_of xs)) (c.deref.ensures.value ∙ sym c.deref-in-If-2.ensures.value) in
    let alike = ap (λ xs. hidden_count_in (block_of xs)) (c.deref-in-If-3.ensures.value ∙ sym c.deref-in-If-2.ensures.value) in
    (omega (arith, ap own_count e, ap hidden_count e), (omega (arith, ap own_count e, ap hidden_count e, ap length c.in_ok-push_block-in-If.ensures.layout), (omega (arith, ap own_count e, same, c.end_of-first.ensures.within), (omega (arith, ap hidden_count e, alike, c.hidden_behind_block-second.ensures.within), ((subst IsShort e c.requires.short).2, tt)))))

pub push_statement-end_of-next-requires-in-While : goal.push_statement-end_of-next-requires-in-While
push_statement-end_of-next-requires-in-While t c =
    let e = while_is c.args.statement.now c.in-While.test c.in-While.block c.deref-in-While.result.now c.in-While.is c.deref-in-While.ensures.value in
    record { counts = omega (arith, ap own_count e) }

pub push_statement-overflow_add-next-in-While : goal.push_statement-overflow_add-next-in-While
push_statement-overflow_add-next-in-While t c =
    let e = while_is c.args.statement.now c.in-While.test c.in-While.block c.deref-in-While.result.now c.in-While.is c.deref-in-While.ensures.value in
    omega (arith, ap own_count e)

pub push_statement-push_block-requires-in-While : goal.push_statement-push_block-requires-in-While
push_statement-push_block-requires-in-While t c =
    let e = while_is c.args.statement.now c.in-While.test c.in-While.block c.deref-in-While-2.result.now c.in-While.is c.deref-in-While-2.ensures.value in
    (omega (arith, ap own_count e, ap hidden_count e), (omega (arith, ap own_count e, ap hidden_count e), (omega (arith, ap own_count e), (omega (arith, ap hidden_count e), ((subst IsShort e c.requires.short).1, tt)))))

pub push_statement-end_of-next-requires-in-Split : goal.push_statement-end_of-next-requires-in-Split
push_statement-end_of-next-requires-in-Split t c =
    let e = split_is c.args.statement.now c.in-Split.line c.in-Split.region c.in-Split.place c.in-Split.first c.in-Split.second c.in-Split.block c.deref-in-Split.result.now c.in-Split.is c.deref-in-Split.ensures.value in
    record { counts = omega (arith, ap own_count e) }

pub push_statement-overflow_add-next-in-Split : goal.push_statement-overflow_add-next-in-Split
push_statement-overflow_add-next-in-Split t c =
    let e = split_is c.args.statement.now c.in-Split.line c.in-Split.region c.in-Split.place c.in-Split.first c.in-Split.second c.in-Split.block c.deref-in-Split.result.now c.in-Split.is c.deref-in-Split.ensures.value in
    omega (arith, ap own_count e)

pub push_statement-push_block-requires-in-Split : goal.push_statement-push_block-requires-in-Split
push_statement-push_block-requires-in-Split t c =
    let e = split_is c.args.statement.now c.in-Split.line c.in-Split.region c.in-Split.place c.in-Split.first c.in-Split.second c.in-Split.block c.deref-in-Split-2.result.now c.in-Split.is c.deref-in-Split-2.ensures.value in
    let parts = c.in_ok-push-in-Split-2.ensures ∙ ap (λ l. l ++ c.in-Split.second.name ∷ []) c.in_ok-push-in-Split.ensures ∙ append_assoc c.args.layout.now (c.in-Split.first.name ∷ []) (c.in-Split.second.name ∷ []) in
    let more = length-append c.args.layout.now (c.in-Split.first.name ∷ c.in-Split.second.name ∷ []) in
    (omega (arith, ap own_count e, ap hidden_count e), (omega (arith, ap own_count e, ap hidden_count e, ap length parts, more), (omega (arith, ap own_count e), (omega (arith, ap hidden_count e), ((subst IsShort e c.requires.short).1, tt)))))

pub push_statement-each_capsule-requires-clause-counts : goal.push_statement-each_capsule-requires-clause-counts
push_statement-each_capsule-requires-clause-counts t c =
    let e = each_is c.args.statement.now c.in-Each.field-0 c.in-Each.field-1 c.in-Each.region c.in-Each.block c.deref-in-Each.result.now c.in-Each.is c.deref-in-Each.ensures.value in
    omega (arith, ap hidden_count e)

pub push_statement-returns-in_ok-push_block-in-If-clause-code : goal.push_statement-returns-in_ok-push_block-in-If-clause-code
push_statement-returns-in_ok-push_block-in-If-clause-code t c =
    let e = if_is c.args.statement.now c.in-If.test c.in-If.block c.in-If.other c.deref-in-If-2.result.now c.deref-in-If-4.result.now c.in-If.is c.deref-in-If-2.ensures.value c.deref-in-If-4.ensures.value in
    let b1 = ap (λ xs. end_of (block_of xs) (c.args.numbers.capsule + 1)) (c.deref.ensures.value ∙ sym c.deref-in-If-2.ensures.value) in
    let b2 = ap (λ xs. end_of (block_of xs) (c.end_of-first.result + 1)) (c.deref-in-If.ensures.value ∙ sym c.deref-in-If-4.ensures.value) in
    let b3 = ap (λ xs. hidden_behind_block (block_of xs) c.args.numbers.hidden) (c.deref-in-If-3.ensures.value ∙ sym c.deref-in-If-2.ensures.value) in
    on_ok_weaker c.push_block-in-If.result (λ n.
    if_code (map procedure_of c.args.maker.now.callees.now) c.args.maker.now.home.procedure c.args.maker.now.home.spare c.args.layout.now c.args.numbers.capsule c.args.numbers.hidden (statement_of c.args.statement.now) (expression_of c.in-If.test) (block_of c.deref-in-If-2.result.now) (block_of c.deref-in-If-4.result.now)
    c.end_of-first.result c.end_of-next.result c.hidden_behind_block-second.result c.push_block.new.layout _ e
    (c.end_of-first.ensures.value ∙ b1) (c.end_of-next.ensures.value ∙ b2) (c.hidden_behind_block-second.ensures.value ∙ b3) c.in_ok-push_block-in-If.ensures.layout
    c.in_ok-body-in-If.ensures c.in_ok-push_capsule-in-If.ensures c.in_ok-push_block-in-If.ensures.code n) c.push_block-in-If.ensures.code

pub push_statement-returns-in_ok-push_capsule-in-While-clause-code : goal.push_statement-returns-in_ok-push_capsule-in-While-clause-code
push_statement-returns-in_ok-push_capsule-in-While-clause-code t c =
    let e = while_is c.args.statement.now c.in-While.test c.in-While.block c.deref-in-While-2.result.now c.in-While.is c.deref-in-While-2.ensures.value in
    let b1 = ap (λ xs. end_of (block_of xs) (c.args.numbers.capsule + 1)) (c.deref-in-While.ensures.value ∙ sym c.deref-in-While-2.ensures.value) in
    on_ok_weaker c.push_block-in-While.result (λ n.
    while_code (map procedure_of c.args.maker.now.callees.now) c.args.maker.now.home.procedure c.args.maker.now.home.spare c.args.layout.now c.args.numbers.capsule c.args.numbers.hidden (statement_of c.args.statement.now) (expression_of c.in-While.test) (block_of c.deref-in-While-2.result.now) c.end_of-next-in-While.result _ e
    (c.end_of-next-in-While.ensures.value ∙ b1) c.in_ok-body-in-While.ensures c.in_ok-push_capsule-in-While.ensures n) c.push_block-in-While.ensures.code

pub push_statement-returns-in_ok-push_block-in-Split-clause-code : goal.push_statement-returns-in_ok-push_block-in-Split-clause-code
push_statement-returns-in_ok-push_block-in-Split-clause-code t c =
    let e = split_is c.args.statement.now c.in-Split.line c.in-Split.region c.in-Split.place c.in-Split.first c.in-Split.second c.in-Split.block c.deref-in-Split-2.result.now c.in-Split.is c.deref-in-Split-2.ensures.value in
    let b1 = ap (λ xs. end_of (block_of xs) (c.args.numbers.capsule + 1)) (c.deref-in-Split.ensures.value ∙ sym c.deref-in-Split-2.ensures.value) in
    split_code_is (map procedure_of c.args.maker.now.callees.now) c.args.maker.now.home.procedure c.args.maker.now.home.spare c.args.layout.now c.args.numbers.capsule c.args.numbers.hidden (statement_of c.args.statement.now) c.in-Split.line c.in-Split.region (expression_of c.in-Split.place) c.in-Split.first c.in-Split.second (block_of c.deref-in-Split-2.result.now)
    c.end_of-next-in-Split.result c.push-in-Split.new.self _ e (c.end_of-next-in-Split.ensures.value ∙ b1) (c.in_ok-push-in-Split-2.ensures ∙ ap (λ l. l ++ c.in-Split.second.name ∷ []) c.in_ok-push-in-Split.ensures ∙ append_assoc c.args.layout.now (c.in-Split.first.name ∷ []) (c.in-Split.second.name ∷ []))
    c.in_ok-body-in-Split.ensures c.in_ok-push_capsule-in-Split.ensures c.in_ok-push_block-in-Split.ensures.code

pub push_statement-returns-in_ok-body-in-Each-clause-code : goal.push_statement-returns-in_ok-body-in-Each-clause-code
push_statement-returns-in_ok-body-in-Each-clause-code t c =
    let e = each_is c.args.statement.now c.in-Each.field-0 c.in-Each.field-1 c.in-Each.region c.in-Each.block c.deref-in-Each.result.now c.in-Each.is c.deref-in-Each.ensures.value in
    on_ok_weaker c.push_capsule-in-Each.result (λ n.
    each_code_is (map procedure_of c.args.maker.now.callees.now) c.args.maker.now.home.procedure c.args.maker.now.home.spare c.args.layout.now c.args.numbers.capsule c.args.numbers.hidden (statement_of c.args.statement.now) c.in-Each.field-0 c.in-Each.field-1 c.in-Each.region (block_of c.deref-in-Each.result.now) _ e
    c.in_ok-body-in-Each.ensures n) c.push_capsule-in-Each.ensures

pub push_block-loop-statement-preserved : goal.push_block-loop-statement-preserved
push_block-loop-statement-preserved t c =
    let e = block_ahead c.args.block.now c.loop-statement.statement-index c.statement-item.result c.loop-statement-test.true c.statement-item.is in
    let i = c.loop-statement.invariant in
    let s = statement_of c.statement-item.result in
    let rest = block_of (drop (c.loop-statement.statement-index + 1) c.args.block.now) in
    let lets = c.in_ok-push_lets.ensures ∙ ap (λ l. with_lets l s) c.in_ok-push_statement.ensures.layout in
    let few = lets_few c.loop-statement.layout s in
    let own = ap own_count_in e in
    let hid = ap hidden_count_in e in
    let procedures = map procedure_of c.args.maker.now.callees.now in
    let last = last_of c.args.last in
    let rest_at = rest_of procedures c.args.maker.now.home.procedure c.args.maker.now.home.spare last in
    let step = body_step procedures c.args.maker.now.home.procedure c.args.maker.now.home.spare last c.loop-statement.layout c.loop-statement.next.capsule c.loop-statement.next.hidden
    (block_of (drop c.loop-statement.statement-index c.args.block.now)) rest s _ _ c.push_statement.new.capsules.items e i.whole c.in_ok-push_statement.ensures.code in
    record {
      whole = step ∙ ap (λ l. c.push_statement.new.capsules.items ++ rest_at l (behind s c.loop-statement.next.capsule) (hidden_behind s c.loop-statement.next.hidden) rest) (sym lets)
          ∙ ap (λ n. c.push_statement.new.capsules.items ++ rest_at c.push_lets.new.self n (hidden_behind s c.loop-statement.next.hidden) rest) (sym c.behind-next.ensures.capsule)
          ∙ ap (λ n. c.push_statement.new.capsules.items ++ rest_at c.push_lets.new.self c.behind-next.result.capsule n rest) (sym c.behind-next.ensures.hidden);
      names = omega (arith, own, hid, few, ap length lets, i.names);
      capsules_fit = omega (arith, own, i.capsules_fit, c.behind-next.ensures.capsule_within);
      hidden_fit = omega (arith, hid, i.hidden_fit, c.behind-next.ensures.hidden_within);
      short = (subst IsShortBlock e i.short).1;
      own = omega (arith, own, i.own);
      within = omega (arith, hid, i.within);
      extends = subst (Extends c.args.layout.now) (sym lets) (extends_lets c.args.layout.now c.loop-statement.layout s i.extends);
    }
