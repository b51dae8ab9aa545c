use Rattle.std.proofs.Common.{◌≡◌, None, arith, sym, subst, ap, ◌∙◌, MatchOption}
use Rattle.std.proofs.lemmas.Map.Text.{hash_map_updates_str}
use Rattle.ppm_regions.specs.Scope.{declared}
use Rattle.ppm_regions.specs.Kept.{Kept, IsSomeAt}
use Rattle.ppm_regions.proofs.KeptLemmas.{has_place, has_none, places_known, places_noted, places_new, pushed_from, within_pushed}
use Rattle.ppm_regions.proofs.scope.Scope.push.Goals as goal

-- the name has a place
pub invariant_of-self-then-is_some : goal.invariant_of-self-then-is_some
invariant_of-self-then-is_some c =
    let items = c.self.inside.items.items in
    let x = c.args.declaration.name.name in
    let told = subst (λ (k : Kept). MatchOption c.place.result (declared k.items x ≡ None) (IsSomeAt k.items x)) (sym c.self.view_is)
    (subst (λ z. MatchOption c.place.result (declared c.args.self.now.items z ≡ None) (IsSomeAt c.args.self.now.items z)) (ap (λ n. n.name) c.name-name.ensures) c.place.ensures) in
    let known = has_place items x c.place.result told (sym c.is_some.ensures ∙ c.if-is_some.true) in
    rw c.in_ok-push.ensures.items
    (places_known c.self.inside.places items c.args.declaration known.0 c.self.invariant.0 known.1, within_pushed items c.self.inside.veils.items c.args.declaration c.self.invariant.1)

pub returns-then-is_some : goal.returns-then-is_some
returns-then-is_some c =
    pushed_from c.args.self.now c.self.inside.items.items c.push.new.self.items c.self.inside.veils.items c.args.declaration c.self.view_is c.in_ok-push.ensures.items
    c.self.invariant.1

-- it has one now
pub invariant_of-self-in_err-push-2 : goal.invariant_of-self-in_err-push-2
invariant_of-self-in_err-push-2 c =
    let items = c.self.inside.items.items in
    let x = c.args.declaration.name.name in
    let told = subst (λ (k : Kept). MatchOption c.place.result (declared k.items x ≡ None) (IsSomeAt k.items x)) (sym c.self.view_is)
    (subst (λ z. MatchOption c.place.result (declared c.args.self.now.items z ≡ None) (IsSomeAt c.args.self.now.items z)) (ap (λ n. n.name) c.name-name.ensures) c.place.ensures) in
    let new = has_none items x c.place.result told (sym c.is_some.ensures ∙ c.if-is_some.false) in
    let named = c.as_bytes.ensures.value ∙ ap (λ n. n.name) c.name-name.ensures in
    rw c.in_err-push-2.ensures.items (
      places_noted c.self.inside.places c.insert.new.self items c.args.declaration c.len-at.result c.self.invariant.0 new c.as_bytes.result.now named
          (hash_map_updates_str c.as_bytes.result.now c.self.inside.places c.insert.new.self _ c.in_ok-insert.ensures.updates),
      c.self.invariant.1,
    )

pub invariant_of-self-2 : goal.invariant_of-self-2
invariant_of-self-2 c =
    let items = c.self.inside.items.items in
    let x = c.args.declaration.name.name in
    let told = subst (λ (k : Kept). MatchOption c.place.result (declared k.items x ≡ None) (IsSomeAt k.items x)) (sym c.self.view_is)
    (subst (λ z. MatchOption c.place.result (declared c.args.self.now.items z ≡ None) (IsSomeAt c.args.self.now.items z)) (ap (λ n. n.name) c.name-name.ensures) c.place.ensures) in
    let new = has_none items x c.place.result told (sym c.is_some.ensures ∙ c.if-is_some.false) in
    let named = c.as_bytes.ensures.value ∙ ap (λ n. n.name) c.name-name.ensures in
    rw c.in_ok-push-2.ensures.items (
      places_new c.self.inside.places c.insert.new.self items c.args.declaration c.len-at.result c.self.invariant.0 new c.as_bytes.result.now named
          (hash_map_updates_str c.as_bytes.result.now c.self.inside.places c.insert.new.self _ c.in_ok-insert.ensures.updates) (omega (arith, c.len-at.ensures)),
      within_pushed items c.self.inside.veils.items c.args.declaration c.self.invariant.1,
    )

pub returns : goal.returns
returns c =
    pushed_from c.args.self.now c.self.inside.items.items c.push-2.new.self.items c.self.inside.veils.items c.args.declaration c.self.view_is c.in_ok-push-2.ensures.items
    c.self.invariant.1
