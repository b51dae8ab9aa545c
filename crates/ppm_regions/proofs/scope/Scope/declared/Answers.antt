use Rattle.std.proofs.Common.{◌≡◌, Some, ap, arith, get_or, length, subst, sym, ◌∙◌}
use Rattle.std.proofs.lemmas.List.{drop_all}
use Rattle.ppm_regions.specs.Kept.{Kept, behind_all}
use Rattle.ppm_regions.proofs.KeptLemmas.{seen_declared, seen_undeclared, first_there}
use Rattle.ppm_regions.proofs.scope.Scope.declared.Goals as goal

-- none is in force
pub returns-in_err-at : goal.returns-in_err-at
returns-in_err-at c = c.from_residual.ensures ∙ sym (seen_undeclared c.args.name.now c.args.self.now c.in_err-at.ensures)

-- there is something at its place
pub returns-in_err-get : goal.returns-in_err-get
returns-in_err-get c =
    let some = c.in_ok-at.ensures in
    let there = (first_there c.args.name.now c.args.self.now.items c.in_ok-at.at some.declaration some.declaration some.first).0 in
    let out = c.in_err-get.ensures.lookup.0 in
    let all = ap length (c.deref.ensures.value ∙ ap (λ (k : Kept). k.items) c.self.view_is) in
    absurd (grind (arith, out, all, there))

-- it is seen in all blocks
pub returns : goal.returns
returns c =
    let some = c.in_ok-at.ensures in
    let first = c.in_ok-get.field-0.now in
    let items = c.deref.ensures.value ∙ ap (λ (k : Kept). k.items) c.self.view_is in
    let veils = c.deref-veil-items.ensures.value ∙ ap (λ (k : Kept). k.veils) c.self.view_is in
    let at = c.in_ok-at.at in
    let is : first ≡ some.declaration =
    subst (λ l. first ≡ get_or l at first) items c.in_ok-get.ensures.lookup.1
    ∙ (first_there c.args.name.now c.args.self.now.items at some.declaration first some.first).1 in
    let over = drop_all c.loop-veil.veil-index c.deref-veil-items.result.now (omega (arith, c.loop-veil-test.false)) in
    let found = sym (ap (λ vs. behind_all at vs c.loop-veil.found) over) ∙ c.loop-veil.invariant ∙ ap (λ vs. behind_all at vs c.copied-found.result) veils
    ∙ ap (behind_all at c.args.self.now.veils) (c.copied-found.ensures ∙ is) in
    ap Some found ∙ sym (seen_declared c.args.name.now c.args.self.now at some.declaration some.first)
