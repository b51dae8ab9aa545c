-- The slot of a name, found in a map.
use Rattle.std.proofs.Common.{◌≡◌, ◌≤◌, ◌<◌, ◌+◌, ℕ, suc, Bool, true, false, cond, List, [], ◌∷◌, ◌++◌, Option, Some, None, Vec, refl, sym, ap, subst, arith, ◌∙◌, length, length-append, nat_lt}
use Rattle.std.specs.Prelude.{if◌then◌else◌}
use Rattle.std.specs.declared.alloc.Global.{Global}
use Rattle.std.specs.HashMap.{HashMap, get_by, UpdatesBy}
use Rattle.std.specs.Map.{KeepsOthers}
use Rattle.std.specs.Str.{bytes_eq}
use Rattle.std.proofs.lemmas.Slice.Eq.{bytes_eq-Decides}
use Rattle.ppm_serial.specs.Names.{slot_in, slot_if, IsIndex}

-- a slot is at most after the last name
pub slot_within : (names : List (List ℕ)) (y : List ℕ) → slot_in names y ≤ length names
slot_within [] y = omega arith
slot_within (n ∷ names) y = go (bytes_eq n y) (slot_within names y)
  where
    go : (b : Bool) → slot_in names y ≤ length names → (if b then 0 else suc (slot_in names y)) ≤ length (n ∷ names)
    go true h = omega arith
    go false h = omega (arith, h)

-- a name that is there keeps its slot
slot_kept : (names : List (List ℕ)) (x y : List ℕ) → slot_in names y < length names → slot_in (names ++ x ∷ []) y ≡ slot_in names y
slot_kept [] x y h = absurd (omega (arith, h))
slot_kept (n ∷ names) x y h = go (bytes_eq n y) h (slot_kept names x y)
  where
    go : (b : Bool) → (if b then 0 else suc (slot_in names y)) < length (n ∷ names) → (slot_in names y < length names → slot_in (names ++ x ∷ []) y ≡ slot_in names y)
        → (if b then 0 else suc (slot_in (names ++ x ∷ []) y)) ≡ (if b then 0 else suc (slot_in names y))
    go true h next = refl
    go false h next = ap suc (next (omega (arith, h)))

-- one that isn't is the new one, or none
slot_new : (names : List (List ℕ)) (x y : List ℕ) → slot_in names y ≡ length names → slot_in (names ++ x ∷ []) y ≡ length names + slot_in (x ∷ []) y
slot_new [] x y h = omega arith
slot_new (n ∷ names) x y h = go (bytes_eq n y) h (slot_new names x y)
  where
    go : (b : Bool) → (if b then 0 else suc (slot_in names y)) ≡ length (n ∷ names) → (slot_in names y ≡ length names → slot_in (names ++ x ∷ []) y ≡ length names + slot_in (x ∷ []) y)
        → (if b then 0 else suc (slot_in (names ++ x ∷ []) y)) ≡ length (n ∷ names) + slot_in (x ∷ []) y
    go true h next = absurd (omega (arith, h))
    go false h next = let t = next (omega (arith, h)) in omega (arith, t)

-- what the map says of the names with a new one
slot_if_new : (names : List (List ℕ)) (x y : List ℕ) → slot_in names x ≡ length names
    → slot_if (names ++ x ∷ []) y ≡ cond (bytes_eq x y) (Some (length names)) (slot_if names y)
slot_if_new names x y new = go (bytes_eq x y) refl (nat_lt (slot_in names y) (length names)) refl
  where
    more : length (names ++ x ∷ []) ≡ suc (length names)
    more = let t = length-append names (x ∷ []) in omega (arith, t)

    some : (k : ℕ) → slot_in (names ++ x ∷ []) y ≡ k → k ≤ length names → slot_if (names ++ x ∷ []) y ≡ Some k
    some k e l = let t : nat_lt (slot_in (names ++ x ∷ []) y) (length (names ++ x ∷ [])) ≡ true = grind (arith, e, l, more) in rw t (ap Some e)

    none : slot_in (names ++ x ∷ []) y ≡ suc (length names) → slot_if (names ++ x ∷ []) y ≡ None
    none e = let t : nat_lt (slot_in (names ++ x ∷ []) y) (length (names ++ x ∷ [])) ≡ false = grind (arith, e, more) in rw t refl

    same : bytes_eq x y ≡ true → slot_in names y ≡ length names
    same e = subst (λ z. slot_in names z ≡ length names) ((bytes_eq-Decides x y).0 e) new

    single : (b : Bool) → bytes_eq x y ≡ b → slot_in (x ∷ []) y ≡ (if b then 0 else 1)
    single b e = ap (λ (c : Bool). if c then 0 else 1) e

    go : (b : Bool) → bytes_eq x y ≡ b → (there : Bool) → nat_lt (slot_in names y) (length names) ≡ there
        → slot_if (names ++ x ∷ []) y ≡ cond b (Some (length names)) (if there then Some (slot_in names y) else None)
    go true e there t = let at = same e in let one = single true e in let all = slot_new names x y at in some (length names) (omega (arith, all, one)) (omega arith)
    go false e true t = let l : slot_in names y < length names = grind (arith, t) in some (slot_in names y) (slot_kept names x y l) (omega (arith, l))
    go false e false t =
        let w = slot_within names y in
        let at : slot_in names y ≡ length names = grind (arith, t, w) in
        let one = single false e in
        let all = slot_new names x y at in
        none (omega (arith, all, one))

-- bytes that differ from those of a key
apart : (bs cs ks : List ℕ) → bytes_eq bs cs ≡ false → bytes_eq bs ks ≡ true → bytes_eq cs ks ≡ false
apart bs cs ks differ is = go (bytes_eq cs ks) refl
  where
    go : (b : Bool) → bytes_eq cs ks ≡ b → b ≡ false
    go true e = let t = (bytes_eq-Decides bs cs).1 ((bytes_eq-Decides bs ks).0 is ∙ sym ((bytes_eq-Decides cs ks).0 e)) in absurd (cc)
    go false e = refl

-- keys are told by their bytes
told_by_bytes : (cs xs ys : List ℕ) → bytes_eq cs xs ≡ true → bytes_eq cs ys ≡ bytes_eq xs ys
told_by_bytes cs xs ys e = ap (λ z. bytes_eq z ys) ((bytes_eq-Decides cs xs).0 e)

-- a change at a key is seen at its bytes alone
pub updated_at : {S : Type 0} (bs : List ℕ) (m n : HashMap (Vec ℕ Global) ℕ S) (w : Option ℕ) → UpdatesBy (λ x y. bytes_eq x.items y.items) (λ k. bytes_eq bs k.items) m n w
    → (cs : List ℕ) → get_by (λ k. bytes_eq cs k.items) n ≡ cond (bytes_eq bs cs) w (get_by (λ k. bytes_eq cs k.items) m)
unfolding KeepsOthers
updated_at bs m n w h cs = go (bytes_eq bs cs) refl
  where
    go : (b : Bool) → bytes_eq bs cs ≡ b → get_by (λ k. bytes_eq cs k.items) n ≡ cond b w (get_by (λ k. bytes_eq cs k.items) m)
    go true e = subst (λ z. get_by (λ k. bytes_eq z k.items) n ≡ w) ((bytes_eq-Decides bs cs).0 e) h.1
    go false e = h.3 (λ k. bytes_eq cs k.items) (λ x y. told_by_bytes cs x.items y.items) (λ k. apart bs cs k.items e)

-- a map with one name more
pub index_more : {S : Type 0} (m n : HashMap (Vec ℕ Global) ℕ S) (names : List (List ℕ)) (x : List ℕ) → IsIndex m names → slot_in names x ≡ length names
    → ((y : List ℕ) → get_by (λ k. bytes_eq y k.items) n ≡ cond (bytes_eq x y) (Some (length names)) (get_by (λ k. bytes_eq y k.items) m))
    → IsIndex n (names ++ x ∷ [])
index_more m n names x index new updated = λ y. updated y ∙ ap (cond (bytes_eq x y) (Some (length names))) (index y) ∙ sym (slot_if_new names x y new)

-- what a map finds is the slot
found_if : (names : List (List ℕ)) (x : List ℕ) (k : ℕ) → Some k ≡ slot_if names x → k ≡ slot_in names x
found_if names x k e = go (nat_lt (slot_in names x) (length names)) e
  where
    go : (b : Bool) → Some k ≡ (if b then Some (slot_in names x) else None) → k ≡ slot_in names x
    go true e = cc
    go false e = absurd (cc)

missed_if : (names : List (List ℕ)) (x : List ℕ) → None ≡ slot_if names x → length names ≡ slot_in names x
missed_if names x e = go (nat_lt (slot_in names x) (length names)) refl e
  where
    go : (b : Bool) → nat_lt (slot_in names x) (length names) ≡ b → None ≡ (if b then Some (slot_in names x) else None) → length names ≡ slot_in names x
    go true t e = absurd (cc)
    go false t e = let w = slot_within names x in grind (arith, t, w)

module _ {S : Type 0} (m : HashMap (Vec ℕ Global) ℕ S) (names self : List (List ℕ)) (bytes x : List ℕ) (index : IsIndex m names) (view : names ≡ self) (is : bytes ≡ x) where
  -- a look-up by the bytes of a name
  looked_up : get_by (λ k. bytes_eq bytes k.items) m ≡ slot_if self x
  looked_up = index bytes ∙ ap (slot_if names) is ∙ ap (λ ns. slot_if ns x) view

  pub slot_found : (k : ℕ) → Some k ≡ get_by (λ k. bytes_eq bytes k.items) m → k ≡ slot_in self x
  slot_found k e = found_if self x k (e ∙ looked_up)

  pub slot_missed : (k : ℕ) → k ≡ length names → None ≡ get_by (λ k. bytes_eq bytes k.items) m → k ≡ slot_in self x
  slot_missed k l e = l ∙ ap (λ (ns : List (List ℕ)). length ns) view ∙ missed_if self x (e ∙ looked_up)

  -- a name that is noted
  pub noted_index : (n : HashMap (Vec ℕ Global) ℕ S) (front new : List (List ℕ)) (copy : List ℕ) (slot count at : ℕ)
      → slot ≡ slot_in self x → count ≡ length names → count ≤ slot → front ≡ names → new ≡ front ++ copy ∷ [] → copy ≡ x → at ≡ length front
      → UpdatesBy (λ x y. bytes_eq x.items y.items) (λ k. bytes_eq bytes k.items) m n (Some at) → IsIndex n new
  noted_index n front new copy slot count at found counted past kept added copied last updates =
      let w = slot_within names bytes in
      let here : slot ≡ slot_in names bytes = found ∙ sym (ap (slot_in self) is) ∙ sym (ap (λ ns. slot_in ns bytes) view) in
      let none : slot_in names bytes ≡ length names = omega (arith, w, here, counted, past) in
      let whole : new ≡ names ++ bytes ∷ [] = added ∙ ap (λ ns. ns ++ copy ∷ []) kept ∙ ap (λ z. names ++ z ∷ []) (copied ∙ sym is) in
      let place : at ≡ length names = last ∙ ap (λ (ns : List (List ℕ)). length ns) kept in
      subst (IsIndex n) (sym whole)
      (index_more m n names bytes index none
      (λ y. updated_at bytes m n (Some at) updates y ∙ ap (λ k. cond (bytes_eq bytes y) (Some k) (get_by (λ k. bytes_eq y k.items) m)) place))

-- a test that holds exactly where two names are equal
pub same_bytes : (x y : List ℕ) (b : Bool) → (b ≡ true → x ≡ y) × (x ≡ y → b ≡ true) → b ≡ bytes_eq x y
same_bytes x y b h = go b refl (bytes_eq x y) refl
  where
    go : (p : Bool) → b ≡ p → (q : Bool) → bytes_eq x y ≡ q → b ≡ bytes_eq x y
    go true e true f = e ∙ sym f
    go true e false f = absurd (let t = (bytes_eq-Decides x y).1 (h.0 e) in cc)
    go false e true f = absurd (let t = h.1 ((bytes_eq-Decides x y).0 f) in cc)
    go false e false f = e ∙ sym f
