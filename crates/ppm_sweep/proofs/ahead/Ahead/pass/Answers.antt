use Rattle.std.proofs.Common.{◌∙◌, sym, ap, subst, slice_get, arith}
use Rattle.ppm_sweep.specs.Ahead.{Left}
use Rattle.ppm_sweep.proofs.LeftLemmas.{AllPass, none_of, among_first, among_next, pass_next_of, pass_step_of, pass_round_of, pass_none, no_processors}
use Rattle.ppm_sweep.proofs.ahead.Ahead.pass.Goals as goal

-- the item that is begun is of so many processors, once less
pub invariant_of-self : goal.invariant_of-self
invariant_of-self c =
    let i = c.self.inside in
    (c.self.invariant.0, among_first i.processors i.items.items i.at i.next i.count i.first _ c.in-Some.item c.in-Some.is c.less_one-self-inside.ensures c.self.invariant.1)

-- the item that comes next is of so many processors
pub invariant_of-self-in-Some-item_at : goal.invariant_of-self-in-Some-item_at
invariant_of-self-in-Some-item_at c =
    let i = c.self.inside in
    let found = ap (λ l. slice_get l i.at) (sym c.deref.ensures.value) ∙ sym c.item_at.ensures ∙ c.in-Some-item_at.is in (
      c.self.invariant.0,
      among_next i.processors i.items.items i.at i.next i.count i.first _ c.in-Some-item_at.item (none_of i.first c.in_default.not-Some) found
          c.less_one-self-inside-in-Some-item_at.ensures c.self.invariant.1,
    )

-- the next item is passed once
pub returns-in-Some-item_at-clause-passes : goal.returns-in-Some-item_at-clause-passes
returns-in-Some-item_at-clause-passes c =
    let i = c.self.inside in
    let found = ap (λ l. slice_get l i.at) (sym c.deref.ensures.value) ∙ sym c.item_at.ensures ∙ c.in-Some-item_at.is in
    pass_next_of i.processors i.items.items i.at i.next i.count c.args.self.now i.first _ c.in-Some-item_at.item c.self.view_is
    (none_of i.first c.in_default.not-Some) found c.less_one-self-inside-in-Some-item_at.ensures c.self.invariant.1

-- a step of the round
pub returns-then-self-clause-passes : goal.returns-then-self-clause-passes
returns-then-self-clause-passes c =
    let i = c.self.inside in
    let none = ap (λ l. slice_get l i.at) (sym c.deref.ensures.value) ∙ sym c.item_at.ensures ∙ none_of c.item_at.result c.in_default-item_at.not-Some in
    pass_step_of i.processors i.items.items i.at i.next i.count c.args.self.now i.first c.self.view_is (none_of i.first c.in_default.not-Some) none
    c.if-self.true

-- a new round
pub returns-then-self-gt0-2-clause-passes : goal.returns-then-self-gt0-2-clause-passes
returns-then-self-gt0-2-clause-passes c =
    let i = c.self.inside in
    let none = ap (λ l. slice_get l i.at) (sym c.deref.ensures.value) ∙ sym c.item_at.ensures ∙ none_of c.item_at.result c.in_default-item_at.not-Some in
    pass_round_of i.processors i.items.items i.at i.next i.count c.args.self.now i.first c.self.view_is (none_of i.first c.in_default.not-Some) none
    (omega (arith, c.if-self.false)) (omega (arith, c.if-self-gt0.true)) (omega (arith, c.if-self-gt0-2.true))

-- nothing is left
pub returns-else-self-gt0-2-clause-passes : goal.returns-else-self-gt0-2-clause-passes
returns-else-self-gt0-2-clause-passes c =
    let i = c.self.inside in
    let none = ap (λ l. slice_get l i.at) (sym c.deref.ensures.value) ∙ sym c.item_at.ensures ∙ none_of c.item_at.result c.in_default-item_at.not-Some in
    subst (λ (l : Left). AllPass l l) c.self.view_is
    (pass_none i.processors i.items.items i.at i.next i.count i.first (none_of i.first c.in_default.not-Some) none
    (no_processors i.next i.processors i.count (omega (arith, c.if-self-gt0-2.false))))
