-- Declarations as they are kept: how they are seen in blocks, and that the map finds the first one of each name.
use Rattle.std.proofs.Common.{◌≡◌, ◌≢◌, ◌⊎◌, inl, inr, ◌≤◌, ◌<◌, ℕ, zero, suc, Bool, true, false, cond, List, [], ◌∷◌, ◌++◌, Option, Some, None, map, take, length, get_or, refl, sym, ap, subst, arith, ◌∙◌, append_assoc, length-append, nat_lt, Bor, MatchOption}
use Rattle.std.specs.HashMap.{HashMap, get_by}
use Rattle.std.specs.Option.{is_some}
use Rattle.std.specs.Str.{bytes_eq}
use Rattle.std.proofs.lemmas.List.{append-nil, length-take, take_at}
use Rattle.ppm_tree.specs.declared.named.Named.{Named}
use Rattle.ppm_tree.specs.Tree.{Block, Nil, Then}
use Rattle.ppm_regions.specs.Scope.{Declaration, Scope, declared, lets_of, scope_behind}
use Rattle.ppm_regions.specs.Kept.{Veil, Kept, AreWithin, Becomes, HasPlaces, IsFirstAt, IsSomeAt, behind_one, behind_all, entered, seen, seen_in, through, under}
use Rattle.ppm_regions.proofs.Elements.{contains_at}
use Rattle.ppm_regions.proofs.Names.{bytes_same, not_among, same_bytes}

-- so many declarations as they are seen are as many
under_length : (g : Declaration → Declaration) (n : ℕ) (items : Scope) → length (under g n items) ≡ length items
under_length g n [] = refl
under_length g zero (d ∷ items) = refl
under_length g (suc n) (d ∷ items) = ap suc (under_length g n items)

under_none : (g : Declaration → Declaration) (items : Scope) → under g zero items ≡ items
under_none g [] = refl
under_none g (d ∷ items) = refl

-- those after them are seen as they are
under_more : (g : Declaration → Declaration) (n : ℕ) (items more : Scope) → n ≤ length items → under g n (items ++ more) ≡ under g n items ++ more
under_more g zero items more h = under_none g (items ++ more) ∙ ap (λ l. l ++ more) (sym (under_none g items))
under_more g (suc n) [] more h = absurd (omega (arith, h))
under_more g (suc n) (d ∷ items) more h = ap (λ l. g d ∷ l) (under_more g n items more (omega (arith, h)))

under_all : (g : Declaration → Declaration) (items : Scope) → under g (length items) items ≡ map g items
under_all g [] = refl
under_all g (d ∷ items) = ap (λ l. g d ∷ l) (under_all g items)

seen_length : (veils : List Veil) (items : Scope) → length (seen_in veils items) ≡ length items
seen_length [] items = refl
seen_length (v ∷ veils) items = seen_length veils (under (through v) v.count items) ∙ under_length (through v) v.count items

-- declarations after the blocks' starts are seen as they are
seen_more : (veils : List Veil) (items more : Scope) → AreWithin (length items) veils → seen_in veils (items ++ more) ≡ seen_in veils items ++ more
seen_more [] items more h = refl
seen_more (v ∷ veils) items more h =
    ap (seen_in veils) (under_more (through v) v.count items more h.0)
    ∙ seen_more veils (under (through v) v.count items) more (subst (λ n. AreWithin n veils) (sym (under_length (through v) v.count items)) h.1)

seen_last : (veils : List Veil) (v : Veil) (items : Scope) → seen_in (veils ++ v ∷ []) items ≡ under (through v) v.count (seen_in veils items)
seen_last [] v items = refl
seen_last (w ∷ veils) v items = seen_last veils v (under (through w) w.count items)

-- what is in force is seen through one block more
pub entered_seen : (k : Kept) (region : Named) (outer : Bool)
    → seen (entered k region outer) ≡ map (through (record { region = region; count = length k.items; outer = outer })) (seen k)
entered_seen k region outer =
    let v : Veil = record { region = region; count = length k.items; outer = outer } in
    seen_last k.veils v k.items ∙ ap (λ n. under (through v) n (seen k)) (sym (seen_length k.veils k.items)) ∙ under_all (through v) (seen k)

-- one declaration more
pub pushed : (items : Scope) (veils : List Veil) (d : Declaration) → AreWithin (length items) veils
    → Becomes (λ s. s ++ d ∷ []) (record { items = items; veils = veils }) (record { items = items ++ d ∷ []; veils = veils })
pushed items veils d h = record { items = refl; veils = refl; scope = seen_more veils items (d ∷ []) h }

-- a bound on where blocks begin
pub within_more : (n m : ℕ) (veils : List Veil) → n ≤ m → AreWithin n veils → AreWithin m veils
within_more n m [] l h = tt
within_more n m (v ∷ veils) l h = (omega (arith, l, h.0), within_more n m veils l h.1)

pub within_one : (n : ℕ) (veils : List Veil) (v : Veil) → v.count ≤ n → AreWithin n veils → AreWithin n (veils ++ v ∷ [])
within_one n [] v l h = (l, tt)
within_one n (w ∷ veils) v l h = (h.0, within_one n veils v l h.1)

pub within_front : (n : ℕ) (veils more : List Veil) → AreWithin n (veils ++ more) → AreWithin n veils
within_front n [] more h = tt
within_front n (v ∷ veils) more h = (h.0, within_front n veils more h.1)

pub within_both : (n : ℕ) (items : Scope) (veils : List Veil) → AreWithin n veils → AreWithin (length items) veils → AreWithin (length (take n items)) veils
within_both n items [] h k = tt
within_both n items (v ∷ veils) h k =
    let is = length-take n items in
    let a : v.count ≤ n = h.0 in
    let b : v.count ≤ length items = k.0 in
    (omega (arith, is, a, b), within_both n items veils h.1 k.1)

-- the first declaration of a name
module _ (x : List ℕ) where
  pub first_declared : (items : Scope) (at : ℕ) (d : Declaration) → IsFirstAt items x at d → declared items x ≡ Some d
  first_declared [] at d h = absurd h
  first_declared (c ∷ items) zero d h = rw h.0 (ap Some h.1)
  first_declared (c ∷ items) (suc at) d h = rw h.0 (first_declared items at d h.1)

  -- a name has none, or one at a place
  pub first_cases : (items : Scope) → (declared items x ≡ None) ⊎ ((at : ℕ) × IsSomeAt items x at)
  first_cases [] = inl refl
  first_cases (c ∷ items) = go (bytes_eq c.name.name x) refl (first_cases items)
    where
      go : (b : Bool) → bytes_eq c.name.name x ≡ b → (declared items x ≡ None) ⊎ ((at : ℕ) × IsSomeAt items x at)
          → (declared (c ∷ items) x ≡ None) ⊎ ((at : ℕ) × IsSomeAt (c ∷ items) x at)
      go true e rest = inr (zero, record { declaration = c; first = (e, refl) })
      go false e (inl none) = inl (rw e none)
      go false e (inr some) = inr (suc some.0, record { declaration = some.1.declaration; first = (e, some.1.first) })

  -- where it stands
  pub first_there : (items : Scope) (at : ℕ) (d e : Declaration) → IsFirstAt items x at d → (at < length items) × (get_or items at e ≡ d) × (d.name.name ≡ x)
  first_there [] at d e h = absurd h
  first_there (c ∷ items) zero d e h = (omega arith, h.1, ap (λ (z : Declaration). z.name.name) (sym h.1) ∙ same_bytes c.name.name x h.0)
  first_there (c ∷ items) (suc at) d e h = let t = first_there items at d e h.1 in (omega (arith, t.0), t.1, t.2)

  -- in the front of a list it is the first of all
  pub first_take : (n : ℕ) (items : Scope) (at : ℕ) (d : Declaration) → IsFirstAt (take n items) x at d → IsFirstAt items x at d
  first_take zero items at d h = absurd h
  first_take (suc n) [] at d h = absurd h
  first_take (suc n) (c ∷ items) zero d h = h
  first_take (suc n) (c ∷ items) (suc at) d h = (h.0, first_take n items at d h.1)

  -- with one declaration more it is as before, or it is the new one
  pub first_more : (items : Scope) (c : Declaration) (at : ℕ) (d : Declaration) → IsFirstAt (items ++ c ∷ []) x at d
      → IsFirstAt items x at d ⊎ ((at ≡ length items) × (c.name.name ≡ x) × (declared items x ≡ None))
  first_more [] c zero d h = inr (refl, same_bytes c.name.name x h.0, refl)
  first_more [] c (suc at) d h = absurd h.1
  first_more (b ∷ items) c zero d h = inl h
  first_more (b ∷ items) c (suc at) d h = go (first_more items c at d h.1)
    where
      go : IsFirstAt items x at d ⊎ ((at ≡ length items) × (c.name.name ≡ x) × (declared items x ≡ None))
          → IsFirstAt (b ∷ items) x (suc at) d ⊎ ((suc at ≡ length (b ∷ items)) × (c.name.name ≡ x) × (declared (b ∷ items) x ≡ None))
      go (inl f) = inl (h.0, f)
      go (inr n) = inr (ap suc n.0, n.1, rw h.0 n.2)

  -- it is seen in the same place
  through_name : (v : Veil) (d : Declaration) → (through v d).name.name ≡ d.name.name
  through_name v d = go v.outer refl
    where
      go : (b : Bool) → v.outer ≡ b → (through v d).name.name ≡ d.name.name
      go true e = rw e refl
      go false e = rw e refl

  under_first : (v : Veil) (n : ℕ) (items : Scope) (at : ℕ) (d : Declaration) (b : Bool) → nat_lt at n ≡ b → IsFirstAt items x at d
      → IsFirstAt (under (through v) n items) x at (cond b (through v d) d)
  under_first v n [] at d b e h = absurd h
  under_first v zero (c ∷ items) at d true e h = let l : at < 0 = grind (arith, e) in absurd (omega (arith, l))
  under_first v zero (c ∷ items) at d false e h = h
  under_first v (suc n) (c ∷ items) zero d true e h = (ap (λ z. bytes_eq z x) (through_name v c) ∙ h.0, ap (through v) h.1)
  under_first v (suc n) (c ∷ items) zero d false e h = let l : suc n ≤ 0 = grind (arith, e) in absurd (omega (arith, l))
  under_first v (suc n) (c ∷ items) (suc at) d b e h =
      (ap (λ z. bytes_eq z x) (through_name v c) ∙ h.0, under_first v n items at d b (smaller b e) h.1)
    where
      smaller : (b : Bool) → nat_lt (suc at) (suc n) ≡ b → nat_lt at n ≡ b
      smaller true e = let l : suc at < suc n = grind (arith, e) in grind (arith, l)
      smaller false e = let l : suc n ≤ suc at = grind (arith, e) in grind (arith, l)

  seen_first : (veils : List Veil) (items : Scope) (at : ℕ) (d : Declaration) → IsFirstAt items x at d
      → IsFirstAt (seen_in veils items) x at (behind_all at veils d)
  seen_first [] items at d h = h
  seen_first (v ∷ veils) items at d h =
      seen_first veils (under (through v) v.count items) at (behind_one at v d) (under_first v v.count items at d (nat_lt at v.count) refl h)

  pub seen_declared : (k : Kept) (at : ℕ) (d : Declaration) → IsFirstAt k.items x at d → declared (seen k) x ≡ Some (behind_all at k.veils d)
  seen_declared k at d h = first_declared (seen k) at (behind_all at k.veils d) (seen_first k.veils k.items at d h)

  -- a name that has none has none in blocks
  under_undeclared : (v : Veil) (n : ℕ) (items : Scope) → declared items x ≡ None → declared (under (through v) n items) x ≡ None
  under_undeclared v n [] h = refl
  under_undeclared v zero (c ∷ items) h = h
  under_undeclared v (suc n) (c ∷ items) h = go (bytes_eq c.name.name x) refl (under_undeclared v n items)
    where
      go : (b : Bool) → bytes_eq c.name.name x ≡ b → (declared items x ≡ None → declared (under (through v) n items) x ≡ None)
          → declared (under (through v) (suc n) (c ∷ items)) x ≡ None
      go true e on = absurd (let t : Some c ≡ None = rw e at h in cc)
      go false e on = rw (through_name v c, e) (on (rw e at h))

  seen_undeclared_in : (veils : List Veil) (items : Scope) → declared items x ≡ None → declared (seen_in veils items) x ≡ None
  seen_undeclared_in [] items h = h
  seen_undeclared_in (v ∷ veils) items h = seen_undeclared_in veils (under (through v) v.count items) (under_undeclared v v.count items h)

  pub seen_undeclared : (k : Kept) → declared k.items x ≡ None → declared (seen k) x ≡ None
  seen_undeclared k h = seen_undeclared_in k.veils k.items h

-- fewer declarations
pub places_take : {S : Type 0} (m : HashMap (Bor (List ℕ)) ℕ S) (n : ℕ) (items : Scope) → HasPlaces m items → HasPlaces m (take n items)
places_take m n items h x at d f = h x at d (first_take x n items at d f)

-- one more, of a name that has one
pub places_known : {S : Type 0} (m : HashMap (Bor (List ℕ)) ℕ S) (items : Scope) (c : Declaration) (k : ℕ) → HasPlaces m items → IsSomeAt items c.name.name k
    → HasPlaces m (items ++ c ∷ [])
places_known m items c k h known x at d f = go (first_more x items c at d f)
  where
    go : IsFirstAt items x at d ⊎ ((at ≡ length items) × (c.name.name ≡ x) × (declared items x ≡ None)) → get_by (λ k. bytes_eq x k.now) m ≡ Some at
    go (inl g) = h x at d g
    go (inr n) =
        let some = first_declared c.name.name items k known.declaration known.first in
        let none : declared items c.name.name ≡ None = subst (λ z. declared items z ≡ None) (sym n.1) n.2 in
        absurd (cc)

-- a new name has a place
module _ {S : Type 0} (m n : HashMap (Bor (List ℕ)) ℕ S) (items : Scope) (c : Declaration) (w : ℕ) (h : HasPlaces m items) (new : declared items c.name.name ≡ None)
    (bytes : List ℕ) (named : bytes ≡ c.name.name)
    (updated : (x : List ℕ) → get_by (λ k. bytes_eq x k.now) n ≡ cond (bytes_eq bytes x) (Some w) (get_by (λ k. bytes_eq x k.now) m)) where
  by_name : (x : List ℕ) → get_by (λ k. bytes_eq x k.now) n ≡ cond (bytes_eq c.name.name x) (Some w) (get_by (λ k. bytes_eq x k.now) m)
  by_name x = updated x ∙ ap (λ b. cond (bytes_eq b x) (Some w) (get_by (λ k. bytes_eq x k.now) m)) named

  pub places_noted : HasPlaces n items
  places_noted x at d f = by_name x ∙ go (bytes_eq c.name.name x) refl ∙ h x at d f
    where
      go : (b : Bool) → bytes_eq c.name.name x ≡ b → cond b (Some w) (get_by (λ k. bytes_eq x k.now) m) ≡ get_by (λ k. bytes_eq x k.now) m
      go true e =
          let some = first_declared x items at d f in
          let none : declared items x ≡ None = subst (λ z. declared items z ≡ None) (same_bytes c.name.name x e) new in
          absurd (cc)
      go false e = refl

  pub places_new : w ≡ length items → HasPlaces n (items ++ c ∷ [])
  places_new is x at d f = go (first_more x items c at d f)
    where
      go : IsFirstAt items x at d ⊎ ((at ≡ length items) × (c.name.name ≡ x) × (declared items x ≡ None)) → get_by (λ k. bytes_eq x k.now) n ≡ Some at
      go (inl g) = places_noted x at d g
      go (inr l) = by_name x ∙ ap (λ b. cond b (Some w) (get_by (λ k. bytes_eq x k.now) m)) (bytes_same c.name.name x l.1) ∙ ap Some (is ∙ sym l.0)

-- what a map of places says of a name
module _ {S : Type 0} (m : HashMap (Bor (List ℕ)) ℕ S) (items : Scope) (x : List ℕ) (h : HasPlaces m items) where
  pub no_place : get_by (λ k. bytes_eq x k.now) m ≡ None → declared items x ≡ None
  no_place none = go (first_cases x items)
    where
      go : (declared items x ≡ None) ⊎ ((at : ℕ) × IsSomeAt items x at) → declared items x ≡ None
      go (inl e) = e
      go (inr some) = let found = h x some.0 some.1.declaration some.1.first in absurd (cc)

  pub place_is : (at : ℕ) (e : Declaration) → get_by (λ k. bytes_eq x k.now) m ≡ Some at → at < length items → e ≡ get_or items at e → e.name.name ≡ x → IsSomeAt items x at
  place_is at e told in' is named = go (first_cases x items)
    where
      go : (declared items x ≡ None) ⊎ ((at : ℕ) × IsSomeAt items x at) → IsSomeAt items x at
      go (inl none) = absurd (not_among (λ d. d.name.name) items x none e (contains_at items at e in' is) named)
      go (inr some) =
          let found = h x some.0 some.1.declaration some.1.first in
          let same : some.0 ≡ at = cc in
          subst (IsSomeAt items x) same some.1

  pub place_other : (at : ℕ) → get_by (λ k. bytes_eq x k.now) m ≡ Some at → ((e : Declaration) → at < length items → e ≡ get_or items at e → e.name.name ≢ x) → declared items x ≡ None
  place_other at told other = go (first_cases x items)
    where
      go : (declared items x ≡ None) ⊎ ((at : ℕ) × IsSomeAt items x at) → declared items x ≡ None
      go (inl none) = none
      go (inr some) =
          let found = h x some.0 some.1.declaration some.1.first in
          let same : some.0 ≡ at = cc in
          let there = first_there x items at some.1.declaration some.1.declaration (subst (λ n. IsFirstAt items x n some.1.declaration) same some.1.first) in
          absurd (other some.1.declaration there.0 (sym there.1) there.2)

-- whether a name has a place
pub has_place : (items : Scope) (x : List ℕ) (o : Option ℕ) → MatchOption o (declared items x ≡ None) (IsSomeAt items x) → is_some o ≡ true → (k : ℕ) × IsSomeAt items x k
has_place items x None told e = absurd (cc)
has_place items x (Some k) told e = (k, told)

pub has_none : (items : Scope) (x : List ℕ) (o : Option ℕ) → MatchOption o (declared items x ≡ None) (IsSomeAt items x) → is_some o ≡ false → declared items x ≡ None
has_none items x None told e = told
has_none items x (Some k) told e = absurd (cc)

-- one declaration more, as a push leaves it
pub within_pushed : (items : Scope) (veils : List Veil) (d : Declaration) → AreWithin (length items) veils → AreWithin (length (items ++ d ∷ [])) veils
within_pushed items veils d h =
    let more = length-append items (d ∷ []) in
    within_more (length items) (length (items ++ d ∷ [])) veils (omega (arith, more)) h

pub pushed_from : (old : Kept) (items new : Scope) (veils : List Veil) (d : Declaration) → record { items = items; veils = veils } ≡ old → new ≡ items ++ d ∷ []
    → AreWithin (length items) veils → Becomes (λ s. s ++ d ∷ []) old (record { items = new; veils = veils })
pushed_from old items new veils d is to h =
    subst (λ k. Becomes (λ s. s ++ d ∷ []) k (record { items = new; veils = veils })) is
    (subst (λ l. Becomes (λ s. s ++ d ∷ []) (record { items = items; veils = veils }) (record { items = l; veils = veils })) (sym to) (pushed items veils d h))

-- declarations stay as they are
pub stays : (k : Kept) → Becomes (λ s. s) k k
stays k = record { items = refl; veils = refl; scope = refl }

pub becomes_same : (f g : Scope → Scope) (old new : Kept) → ((s : Scope) → f s ≡ g s) → Becomes f old new → Becomes g old new
becomes_same f g old new e h = record { items = h.items ∙ e old.items; veils = h.veils; scope = h.scope ∙ e (seen old) }

-- they become others, and these become others
pub becomes_next : (f g all : Scope → Scope) (old mid new : Kept) → Becomes f old mid → Becomes g mid new → ((s : Scope) → g (f s) ≡ all s) → Becomes all old new
becomes_next f g all old mid new h k e =
    record { items = k.items ∙ ap g h.items ∙ e old.items; veils = k.veils ∙ h.veils; scope = k.scope ∙ ap g h.scope ∙ e (seen old) }

-- what is in force after a block begins with what was in force before it
pub behind_more_of : (s : Scope) (block : Block) → (more : Scope) × (scope_behind s block ≡ s ++ more)
behind_more_of s Nil = ([], sym (append-nil s))
behind_more_of s (Then x block) =
    let rest = behind_more_of (s ++ lets_of x) block in
    (lets_of x ++ rest.0, rest.1 ∙ append_assoc s (lets_of x) rest.0)

pub behind_more_with : (s first : Scope) (block : Block) → (more : Scope) × (scope_behind (s ++ first) block ≡ s ++ more)
behind_more_with s first block =
    let rest = behind_more_of (s ++ first) block in
    (first ++ rest.0, rest.1 ∙ append_assoc s first rest.0)

-- so many of the first of them are those
pub left_behind : (f : Scope → Scope) (n : ℕ) (old new : Kept) → ((s : Scope) → (more : Scope) × (f s ≡ s ++ more)) → n ≡ length old.items → Becomes f old new
    → record { items = take n new.items; veils = new.veils } ≡ old
left_behind f n old new front is h =
    let items : take n new.items ≡ old.items
    = ap (take n) (h.items ∙ (front old.items).1) ∙ take_at old.items (front old.items).0 n (sym is) in
    λ i. record { items = items i; veils = h.veils i }

-- where blocks begin is the same
pub within_kept : (f : Scope → Scope) (n : ℕ) (old new : Kept) → Becomes f old new → AreWithin n old.veils → AreWithin n new.veils
within_kept f n old new h = subst (AreWithin n) (sym h.veils)
