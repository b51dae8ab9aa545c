use Rattle.std.proofs.Common.{◌≡◌, None, Some, ap, sym, subst, arith, get_or, length, ◌∙◌}
use Rattle.std.proofs.lemmas.List.{get_or_default}
use Rattle.std.specs.HashMap.{get_by}
use Rattle.std.specs.Str.{bytes_eq}
use Rattle.ppm_regions.specs.Scope.{Declaration}
use Rattle.ppm_regions.proofs.KeptLemmas.{no_place, place_is, place_other}
use Rattle.ppm_regions.proofs.scope.Scope.place.Goals as goal

-- no name has the place
pub returns-in_err-at : goal.returns-in_err-at
returns-in_err-at c =
    rw (c.from_residual.ensures, sym c.self.view_is)
    (no_place c.self.inside.places c.self.inside.items.items c.args.name.now c.self.invariant.0
    (subst (λ b. get_by (λ k. bytes_eq b k.now) c.self.inside.places ≡ None) c.as_bytes.ensures.value (sym c.in_err-at.ensures.value)))

-- it was there, and is in force no more
pub returns-in_err-item : goal.returns-in_err-item
returns-in_err-item c =
    rw (c.from_residual-in_err-item.ensures, sym c.self.view_is)
    (place_other c.self.inside.places c.self.inside.items.items c.args.name.now c.self.invariant.0 c.in_ok-at.field-0.now
    (subst (λ b. get_by (λ k. bytes_eq b k.now) c.self.inside.places ≡ Some c.in_ok-at.field-0.now) c.as_bytes.ensures.value (sym c.in_ok-at.ensures.value))
    (λ e there is same.
    let out = c.in_err-item.ensures.lookup.0 in
    let all = ap length c.deref.ensures.value in
    grind (arith, out, all, there)))

-- this is the first one with the name
pub returns-then-is : goal.returns-then-is
returns-then-is c =
    rw (sym c.self.view_is)
    (place_is c.self.inside.places c.self.inside.items.items c.args.name.now c.self.invariant.0 c.in_ok-at.field-0.now c.in_ok-item.item.now
    (subst (λ b. get_by (λ k. bytes_eq b k.now) c.self.inside.places ≡ Some c.in_ok-at.field-0.now) c.as_bytes.ensures.value (sym c.in_ok-at.ensures.value))
    (let in' = c.in_ok-item.ensures.lookup.0 in let all = ap length c.deref.ensures.value in grind (arith, in', all))
    (subst (λ l. c.in_ok-item.item.now ≡ get_or l c.in_ok-at.field-0.now c.in_ok-item.item.now) c.deref.ensures.value c.in_ok-item.ensures.lookup.1) (ap (λ (d : Declaration). d.name.name) (sym c.item.view_is) ∙ c.is.ensures.0 c.if-is.true))

-- another one has the place
pub returns : goal.returns
returns c =
    rw (sym c.self.view_is)
    (place_other c.self.inside.places c.self.inside.items.items c.args.name.now c.self.invariant.0 c.in_ok-at.field-0.now
    (subst (λ b. get_by (λ k. bytes_eq b k.now) c.self.inside.places ≡ Some c.in_ok-at.field-0.now) c.as_bytes.ensures.value (sym c.in_ok-at.ensures.value))
    (λ e there is same.
    let at = subst (λ l. c.in_ok-item.item.now ≡ get_or l c.in_ok-at.field-0.now c.in_ok-item.item.now) c.deref.ensures.value c.in_ok-item.ensures.lookup.1 in
    let one : c.in_ok-item.item.now ≡ e = at ∙ get_or_default c.self.inside.items.items c.in_ok-at.field-0.now c.in_ok-item.item.now e there ∙ sym is in
    let told = c.is.ensures.1 (ap (λ (d : Declaration). d.name.name) (c.item.view_is ∙ one) ∙ same) in
    absurd (cc)))
