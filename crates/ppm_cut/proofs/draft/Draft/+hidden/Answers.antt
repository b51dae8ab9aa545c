use Rattle.std.proofs.Common.{◌≡◌, ◌+◌, ◌++◌, [], ◌∷◌, suc, map, length, drop, refl, sym, ap, subst, ◌∙◌, arith, append_assoc, length-append}
use Rattle.std.proofs.lemmas.Result.{on_ok_weaker}
use Rattle.ppm_tree.specs.Tree.{statement_of, block_of, procedure_of}
use Rattle.ppm_cut_code.specs.Layout.{caught}
use Rattle.ppm_cut_code.specs.Numbers.{hidden_behind_block}
use Rattle.ppm_cut_code.specs.Routines.{Hidden, hidden_of, hidden_of_block}
use Rattle.ppm_cut_code.specs.Statements.{with_lets}
use Rattle.ppm_cut.specs.Counts.{own_count, own_count_in, hidden_count, hidden_count_in, IsShort, IsShortBlock}
use Rattle.ppm_cut.specs.Drafts.{Drafts}
use Rattle.ppm_cut_bounds.proofs.Blocks.{block_ahead}
use Rattle.ppm_cut.proofs.Stmts.{if_is, while_is, split_is, each_is}
use Rattle.ppm_cut.proofs.Bodies.{Extends, extends_lets, lets_few}
use Rattle.ppm_cut.proofs.Drafting.{drafts_count, hidden_at, number_behind, number_behind_block, if_drafts, each_drafts, rest_step, caught_few}
use Rattle.ppm_cut.proofs.draft.Draft.+hidden.Goals as goal

pub push_hidden-push_hidden_block-requires : goal.push_hidden-push_hidden_block-requires
push_hidden-push_hidden_block-requires t c =
    let e = if_is c.args.statement.now c.in-If.field-0 c.in-If.block c.in-If.other c.deref.result.now c.in-If.other.items c.in-If.is
    c.deref.ensures.value refl in
    (omega (arith, ap own_count e, ap hidden_count e), (c.requires.number, (omega (arith, ap own_count e, ap hidden_count e), (omega (arith, ap hidden_count e), (omega (arith, ap hidden_count e), (subst IsShort e c.requires.short).1)))))

pub push_hidden-hidden_behind_block-next-requires : goal.push_hidden-hidden_behind_block-next-requires
push_hidden-hidden_behind_block-next-requires t c =
    let e = if_is c.args.statement.now c.in-If.field-0 c.in-If.block c.in-If.other c.deref-in-If.result.now c.in-If.other.items c.in-If.is
    c.deref-in-If.ensures.value refl in
    record { counts = omega (arith, ap hidden_count e) }

pub push_hidden-push_hidden_block-requires-in-If : goal.push_hidden-push_hidden_block-requires-in-If
push_hidden-push_hidden_block-requires-in-If t c =
    let e = if_is c.args.statement.now c.in-If.field-0 c.in-If.block c.in-If.other c.deref.result.now c.deref-in-If-2.result.now c.in-If.is
    c.deref.ensures.value c.deref-in-If-2.ensures.value in
    let again = c.deref-in-If.ensures.value ∙ sym c.deref.ensures.value in
    let alike = ap (λ xs. hidden_count_in (block_of xs)) again in
    let same = ap (λ xs. hidden_behind_block (block_of xs) c.args.hidden) again in
    let first = c.in_ok-push_hidden_block-in-If.ensures in
    let number = number_behind_block (map procedure_of c.args.callees.now) c.args.layout.now c.args.hidden
    (block_of c.deref.result.now) c.args.self.now c.push_hidden_block.new.self first.drafts c.requires.number
    ∙ sym same ∙ sym c.hidden_behind_block-next.ensures.value in
    (omega (arith, ap own_count e, ap hidden_count e), (number, (omega (arith, ap own_count e, ap hidden_count e, ap length first.layout), (omega (arith, ap hidden_count e, first.next), (omega (arith, ap hidden_count e, alike, c.hidden_behind_block-next.ensures.within), (subst IsShort e c.requires.short).2)))))

pub push_hidden-push_hidden_block-requires-in-While : goal.push_hidden-push_hidden_block-requires-in-While
push_hidden-push_hidden_block-requires-in-While t c =
    let e = while_is c.args.statement.now c.in-While.field-0 c.in-While.block c.deref-in-While.result.now c.in-While.is
    c.deref-in-While.ensures.value in
    (omega (arith, ap own_count e, ap hidden_count e), (c.requires.number, (omega (arith, ap own_count e, ap hidden_count e), (omega (arith, ap hidden_count e), (omega (arith, ap hidden_count e), (subst IsShort e c.requires.short).1)))))

pub push_hidden-push_hidden_block-requires-in-Split : goal.push_hidden-push_hidden_block-requires-in-Split
push_hidden-push_hidden_block-requires-in-Split t c =
    let e = split_is c.args.statement.now c.in-Split.field-0 c.in-Split.field-1 c.in-Split.field-2 c.in-Split.first c.in-Split.second
    c.in-Split.block c.deref-in-Split.result.now c.in-Split.is c.deref-in-Split.ensures.value in
    let parts = c.in_ok-push-in-Split-2.ensures ∙ ap (λ l. l ++ c.in-Split.second.name ∷ []) c.in_ok-push-in-Split.ensures
    ∙ append_assoc c.args.layout.now (c.in-Split.first.name ∷ []) (c.in-Split.second.name ∷ []) in
    let more = length-append c.args.layout.now (c.in-Split.first.name ∷ c.in-Split.second.name ∷ []) in
    (omega (arith, ap own_count e, ap hidden_count e), (c.requires.number, (omega (arith, ap own_count e, ap hidden_count e, ap length parts, more), (omega (arith, ap hidden_count e), (omega (arith, ap hidden_count e), (subst IsShort e c.requires.short).1)))))

pub push_hidden-push_sweep-requires-clause-names : goal.push_hidden-push_sweep-requires-clause-names
push_hidden-push_sweep-requires-clause-names t c =
    let e = each_is c.args.statement.now c.in-Each.index c.in-Each.part c.in-Each.region c.in-Each.block c.deref-in-Each-2.result.now c.in-Each.is
    c.deref-in-Each-2.ensures.value in
    let inner = c.in_ok-inner-in-Each.ensures ∙ ap (λ xs. c.in-Each.part.name ∷ c.in-Each.index.name ∷ caught c.args.layout.now (block_of xs))
    (c.deref-in-Each.ensures.value ∙ sym c.deref-in-Each-2.ensures.value) in
    let few = caught_few c.args.layout.now (block_of c.deref-in-Each-2.result.now) in
    omega (arith, ap own_count e, ap hidden_count e, ap length inner, few, c.requires.names)

pub push_hidden-push_sweep-requires-clause-capsules : goal.push_hidden-push_sweep-requires-clause-capsules
push_hidden-push_sweep-requires-clause-capsules t c =
    let e = each_is c.args.statement.now c.in-Each.index c.in-Each.part c.in-Each.region c.in-Each.block c.deref-in-Each-2.result.now c.in-Each.is
    c.deref-in-Each-2.ensures.value in
    omega (arith, ap hidden_count e, c.requires.capsules)

pub push_hidden-push_sweep-requires-clause-hidden : goal.push_hidden-push_sweep-requires-clause-hidden
push_hidden-push_sweep-requires-clause-hidden t c =
    let e = each_is c.args.statement.now c.in-Each.index c.in-Each.part c.in-Each.region c.in-Each.block c.deref-in-Each-2.result.now c.in-Each.is
    c.deref-in-Each-2.ensures.value in
    omega (arith, ap hidden_count e, c.requires.hidden, c.requires.number)

pub push_hidden-push_sweep-requires-clause-short : goal.push_hidden-push_sweep-requires-clause-short
push_hidden-push_sweep-requires-clause-short t c =
    let e = each_is c.args.statement.now c.in-Each.index c.in-Each.part c.in-Each.region c.in-Each.block c.deref-in-Each-2.result.now c.in-Each.is
    c.deref-in-Each-2.ensures.value in
    subst IsShort e c.requires.short

pub push_hidden-push_hidden_block-requires-in-Each : goal.push_hidden-push_hidden_block-requires-in-Each
push_hidden-push_hidden_block-requires-in-Each t c =
    let e = each_is c.args.statement.now c.in-Each.index c.in-Each.part c.in-Each.region c.in-Each.block c.deref-in-Each-3.result.now c.in-Each.is
    c.deref-in-Each-3.ensures.value in
    let inner = c.in_ok-inner-in-Each.ensures ∙ ap (λ xs. c.in-Each.part.name ∷ c.in-Each.index.name ∷ caught c.args.layout.now (block_of xs))
    (c.deref-in-Each.ensures.value ∙ sym c.deref-in-Each-3.ensures.value) in
    let few = caught_few c.args.layout.now (block_of c.deref-in-Each-3.result.now) in
    let sweep = c.in_ok-push_sweep-in-Each.ensures in
    let again = c.deref-in-Each-2.ensures.value ∙ sym c.deref-in-Each-3.ensures.value in
    let alike = ap (λ xs. own_count_in (block_of xs)) again in
    let swept = c.in_ok-inner-in-Each.ensures in
    let one = drafts_count (map procedure_of c.args.callees.now) _ c.args.self.now c.push_sweep.new.self
    (sweep.drafts c.in-Each.part.name c.in-Each.index.name (caught c.args.layout.now (block_of c.deref-in-Each.result.now)) swept) in
    (omega (arith, ap own_count e, ap hidden_count e), (omega (arith, one, c.requires.number), (omega (arith, ap own_count e, ap hidden_count e, ap length sweep.layout, ap length inner, few), (omega (arith, ap hidden_count e, alike, sweep.next), (omega (arith, ap hidden_count e), subst IsShort e c.requires.short)))))

pub push_hidden-returns-in_ok-push_hidden_block-in-If-clause-drafts : goal.push_hidden-returns-in_ok-push_hidden_block-in-If-clause-drafts
push_hidden-returns-in_ok-push_hidden_block-in-If-clause-drafts t c =
    let e = if_is c.args.statement.now c.in-If.field-0 c.in-If.block c.in-If.other c.deref.result.now c.deref-in-If-2.result.now c.in-If.is
    c.deref.ensures.value c.deref-in-If-2.ensures.value in
    let same = ap (λ xs. hidden_behind_block (block_of xs) c.args.hidden) (c.deref-in-If.ensures.value ∙ sym c.deref.ensures.value) in
    on_ok_weaker c.push_hidden_block-in-If.result (λ d.
    if_drafts (map procedure_of c.args.callees.now) c.args.layout.now c.push_hidden_block.new.layout c.args.hidden
    c.hidden_behind_block-next.result (statement_of c.args.statement.now) _ (block_of c.deref.result.now) (block_of c.deref-in-If-2.result.now)
    c.args.self.now c.push_hidden_block.new.self c.push_hidden_block-in-If.new.self e (c.hidden_behind_block-next.ensures.value
    ∙ same) c.in_ok-push_hidden_block-in-If.ensures.layout
    c.in_ok-push_hidden_block-in-If.ensures.drafts d) c.push_hidden_block-in-If.ensures.drafts

pub push_hidden-returns-in_ok-push_hidden_block-in-If-clause-next : goal.push_hidden-returns-in_ok-push_hidden_block-in-If-clause-next
push_hidden-returns-in_ok-push_hidden_block-in-If-clause-next t c =
    let e = if_is c.args.statement.now c.in-If.field-0 c.in-If.block c.in-If.other c.deref.result.now c.deref-in-If-2.result.now c.in-If.is
    c.deref.ensures.value c.deref-in-If-2.ensures.value in
    on_ok_weaker c.push_hidden_block-in-If.result (λ n. omega (
      arith,
      ap hidden_count e,
      n,
      c.in_ok-push_hidden_block-in-If.ensures.next,
    )) c.push_hidden_block-in-If.ensures.next

pub push_hidden-returns-in-While-clause-drafts : goal.push_hidden-returns-in-While-clause-drafts
push_hidden-returns-in-While-clause-drafts t c =
    let e = while_is c.args.statement.now c.in-While.field-0 c.in-While.block c.deref-in-While.result.now c.in-While.is
    c.deref-in-While.ensures.value in
    on_ok_weaker c.push_hidden_block-in-While.result (λ d.
    subst (λ s. Drafts (map procedure_of c.args.callees.now) (hidden_of c.args.layout.now c.args.hidden s) c.args.self.now
    c.push_hidden_block-in-While.new.self) (sym e) d) c.push_hidden_block-in-While.ensures.drafts

pub push_hidden-returns-in_ok-push_hidden_block-in-Split-clause-drafts : goal.push_hidden-returns-in_ok-push_hidden_block-in-Split-clause-drafts
push_hidden-returns-in_ok-push_hidden_block-in-Split-clause-drafts t c =
    let e = split_is c.args.statement.now c.in-Split.field-0 c.in-Split.field-1 c.in-Split.field-2 c.in-Split.first c.in-Split.second
    c.in-Split.block c.deref-in-Split.result.now c.in-Split.is c.deref-in-Split.ensures.value in
    let parts = c.in_ok-push-in-Split-2.ensures ∙ ap (λ l. l ++ c.in-Split.second.name ∷ []) c.in_ok-push-in-Split.ensures
    ∙ append_assoc c.args.layout.now (c.in-Split.first.name ∷ []) (c.in-Split.second.name ∷ []) in
    subst (λ s. Drafts (map procedure_of c.args.callees.now) (hidden_of c.args.layout.now c.args.hidden s) c.args.self.now
    c.push_hidden_block-in-Split.new.self) (sym e)
    (subst (λ l. Drafts (map procedure_of c.args.callees.now) (hidden_of_block l c.args.hidden
    (block_of c.deref-in-Split.result.now)) c.args.self.now c.push_hidden_block-in-Split.new.self) parts
    c.in_ok-push_hidden_block-in-Split.ensures.drafts)

pub push_hidden-returns-in-While-clause-next : goal.push_hidden-returns-in-While-clause-next
push_hidden-returns-in-While-clause-next t c =
    let e = while_is c.args.statement.now c.in-While.field-0 c.in-While.block c.deref-in-While.result.now c.in-While.is
    c.deref-in-While.ensures.value in
    on_ok_weaker c.push_hidden_block-in-While.result (λ n. omega (arith, ap hidden_count e, n)) c.push_hidden_block-in-While.ensures.next

pub push_hidden-returns-in_ok-push_hidden_block-in-Split-clause-next : goal.push_hidden-returns-in_ok-push_hidden_block-in-Split-clause-next
push_hidden-returns-in_ok-push_hidden_block-in-Split-clause-next t c =
    let e = split_is c.args.statement.now c.in-Split.field-0 c.in-Split.field-1 c.in-Split.field-2 c.in-Split.first c.in-Split.second
    c.in-Split.block c.deref-in-Split.result.now c.in-Split.is c.deref-in-Split.ensures.value in
    omega (arith, ap hidden_count e, c.in_ok-push_hidden_block-in-Split.ensures.next)

pub push_hidden-returns-in_ok-push_sweep-in-Each-clause-drafts : goal.push_hidden-returns-in_ok-push_sweep-in-Each-clause-drafts
push_hidden-returns-in_ok-push_sweep-in-Each-clause-drafts t c =
    let e = each_is c.args.statement.now c.in-Each.index c.in-Each.part c.in-Each.region c.in-Each.block c.deref-in-Each-3.result.now c.in-Each.is
    c.deref-in-Each-3.ensures.value in
    let block = block_of c.deref-in-Each-3.result.now in
    let sweep = c.in_ok-push_sweep-in-Each.ensures in
    let again = c.deref-in-Each-2.ensures.value ∙ sym c.deref-in-Each-3.ensures.value in
    let procedures = map procedure_of c.args.callees.now in
    let names = caught c.args.layout.now block in
    let inner = c.in_ok-inner-in-Each.ensures ∙ ap (λ xs. c.in-Each.part.name ∷ c.in-Each.index.name ∷ caught c.args.layout.now (block_of xs))
    (c.deref-in-Each.ensures.value ∙ sym c.deref-in-Each-3.ensures.value) in
    let next : c.args.hidden + 1 ≡ suc c.args.hidden = omega arith in
    let one = subst (λ xs. Drafts procedures (Hidden (record {
      number = c.args.hidden;
      line = c.in-Each.region.line;
      part = c.in-Each.part.name;
      index = c.in-Each.index.name;
      names = names;
      block = block_of xs;
    }) ∷ []) c.args.self.now c.push_sweep.new.self)
    again (hidden_at procedures (length c.args.self.now.procedures.items) c.args.hidden c.in-Each.region.line c.in-Each.part.name c.in-Each.index.name
    names (block_of c.deref-in-Each-2.result.now) c.args.self.now c.push_sweep.new.self c.requires.number
    (sweep.drafts c.in-Each.part.name c.in-Each.index.name names inner)) in
    on_ok_weaker c.push_hidden_block-in-Each.result (λ d.
    each_drafts procedures c.args.layout.now _ c.args.hidden _ (statement_of c.args.statement.now) c.in-Each.index c.in-Each.part c.in-Each.region
    block
    c.args.self.now c.push_sweep.new.self c.push_hidden_block-in-Each.new.self e next (sweep.layout
    ∙ inner) one d) c.push_hidden_block-in-Each.ensures.drafts

pub push_hidden-returns-in_ok-push_sweep-in-Each-clause-next : goal.push_hidden-returns-in_ok-push_sweep-in-Each-clause-next
push_hidden-returns-in_ok-push_sweep-in-Each-clause-next t c =
    let e = each_is c.args.statement.now c.in-Each.index c.in-Each.part c.in-Each.region c.in-Each.block c.deref-in-Each-3.result.now c.in-Each.is
    c.deref-in-Each-3.ensures.value in
    let alike = ap (λ xs. own_count_in (block_of xs)) (c.deref-in-Each-2.ensures.value ∙ sym c.deref-in-Each-3.ensures.value) in
    on_ok_weaker c.push_hidden_block-in-Each.result (λ n. omega (
      arith,
      ap hidden_count e,
      alike,
      n,
      c.in_ok-push_sweep-in-Each.ensures.next,
    )) c.push_hidden_block-in-Each.ensures.next

pub push_hidden_block-loop-statement-preserved : goal.push_hidden_block-loop-statement-preserved
push_hidden_block-loop-statement-preserved t c =
    let e = block_ahead c.args.block.now c.loop-statement.statement-index c.statement-item.result c.loop-statement-test.true c.statement-item.is in
    let i = c.loop-statement.invariant in
    let s = statement_of c.statement-item.result in
    let rest = block_of (drop (c.loop-statement.statement-index + 1) c.args.block.now) in
    let layout = c.loop-statement.layout in
    let next = c.loop-statement.next in
    let pushed = c.in_ok-push_hidden.ensures in
    let behind = c.hidden_behind-next.ensures in
    let lets = c.in_ok-push_lets.ensures ∙ ap (λ l. with_lets l s) pushed.layout in
    let few = lets_few layout s in
    let own = ap own_count_in e in
    let hid = ap hidden_count_in e in
    let procedures = map procedure_of c.args.callees.now in
    record {
      whole = rest_step procedures c.args.layout.now c.args.hidden (block_of c.args.block.now) layout next
          (block_of (drop c.loop-statement.statement-index c.args.block.now)) rest s _ _ c.args.self.now c.loop-statement.self _ e lets
          behind.value i.whole pushed.drafts;
      number = number_behind procedures layout next s c.loop-statement.self c.push_hidden.new.self pushed.drafts i.number ∙ sym behind.value;
      names = omega (arith, own, hid, few, ap length lets, i.names);
      capsules_fit = omega (arith, hid, i.capsules_fit, pushed.next);
      hidden_fit = omega (arith, hid, i.hidden_fit, behind.within);
      short = (subst IsShortBlock e i.short).1;
      own = omega (arith, own, i.own);
      within = omega (arith, hid, i.within);
      extends = subst (Extends c.args.layout.now) (sym lets) (extends_lets c.args.layout.now layout s i.extends);
    }
