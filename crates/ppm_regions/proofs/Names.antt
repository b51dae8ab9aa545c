-- The first item with a name.
use Rattle.std.proofs.Common.{◌++◌, cond, ◌≡◌, ◌≢◌, ◌↔◌, ◌<◌, ◌+◌, ℕ, suc, arith, Bool, true, false, IsTrue, List, [], ◌∷◌, Option, Some, None, map, drop, length, get_or, drop-cons, refl, sym, ap, subst, ◌∙◌}
use Rattle.std.specs.Str.{bytes_eq}
use Rattle.std.proofs.lemmas.Slice.Eq.{bytes_eq-Decides}
use Rattle.std.specs.List.{Contains}
use Rattle.ppm_regions.specs.Scope.{first_named}
use Rattle.ppm_regions.proofs.Elements.{contains_cases}

pub bytes_same : (x y : List ℕ) → x ≡ y → bytes_eq x y ≡ true
bytes_same x y e = (bytes_eq-Decides x y).1 e

pub same_bytes : (x y : List ℕ) → bytes_eq x y ≡ true → x ≡ y
same_bytes x y e = (bytes_eq-Decides x y).0 e

pub bytes_other : (x y : List ℕ) → (x ≡ y → ⊥) → bytes_eq x y ≡ false
bytes_other x y h = go (bytes_eq x y) refl
  where
    go : (b : Bool) → bytes_eq x y ≡ b → bytes_eq x y ≡ false
    go true e = absurd (h (same_bytes x y e))
    go false e = e

-- what a test of two names answers is whether their bytes are the same
pub test_is : (b : Bool) (x y : List ℕ) → (IsTrue b ↔ (x ≡ y)) → b ≡ bytes_eq x y
test_is true x y h = sym (bytes_same x y (h.0 refl))
test_is false x y h = sym (bytes_other x y (λ e. let t = h.1 e in absurd (cc)))

module _ {A : Type 0} (name_of : A → List ℕ) (x : List ℕ) where
  pub found_head : (i : A) (items : List A) → name_of i ≡ x → first_named name_of (i ∷ items) x ≡ Some i
  found_head i items e = rw (bytes_same (name_of i) x e) refl

  pub found_later : (i : A) (items : List A) → (name_of i ≡ x → ⊥) → first_named name_of (i ∷ items) x ≡ first_named name_of items x
  found_later i items h = rw (bytes_other (name_of i) x h) refl

  -- an element that a loop has come to
  ahead : (xs : List A) (k : ℕ) (i : A) → k < length xs → i ≡ get_or xs k i → drop k xs ≡ i ∷ drop (k + 1) xs
  ahead xs k i in' at =
      let next : suc k ≡ k + 1 = omega arith in
      drop-cons xs k i in' ∙ ap (λ y. y ∷ drop (suc k) xs) (sym at) ∙ ap (λ n. i ∷ drop n xs) next

  pub found_here : (xs : List A) (k : ℕ) (i : A) → k < length xs → i ≡ get_or xs k i → name_of i ≡ x → first_named name_of (drop k xs) x ≡ Some i
  found_here xs k i in' at e = rw (ahead xs k i in' at) (found_head i (drop (k + 1) xs) e)

  pub not_here : (xs : List A) (k : ℕ) (i : A) → k < length xs → i ≡ get_or xs k i → (name_of i ≡ x → ⊥)
      → first_named name_of (drop (k + 1) xs) x ≡ first_named name_of (drop k xs) x
  not_here xs k i in' at h = sym (rw (ahead xs k i in' at) (found_later i (drop (k + 1) xs) h))

-- the first element with a name, in the images of a list
module _ {A B : Type 0} (f : A → B) (name_of : B → List ℕ) (x : List ℕ) where
  pub image_here : (xs : List A) (k : ℕ) (i : A) → k < length xs → i ≡ get_or xs k i → name_of (f i) ≡ x
      → first_named name_of (map f (drop k xs)) x ≡ Some (f i)
  image_here xs k i in' at e = rw (ahead (λ a. name_of (f a)) x xs k i in' at) (found_head name_of x (f i) (map f (drop (k + 1) xs)) e)

  pub image_not_here : (xs : List A) (k : ℕ) (i : A) → k < length xs → i ≡ get_or xs k i → (name_of (f i) ≡ x → ⊥)
      → first_named name_of (map f (drop (k + 1) xs)) x ≡ first_named name_of (map f (drop k xs)) x
  image_not_here xs k i in' at h = sym (rw (ahead (λ a. name_of (f a)) x xs k i in' at) (found_later name_of x (f i) (map f (drop (k + 1) xs)) h))

-- one item more at the end of a list
module _ {A : Type 0} (name_of : A → List ℕ) where
  in_front : (xs ys : List A) (x : List ℕ) (y : A) → first_named name_of xs x ≡ Some y → first_named name_of (xs ++ ys) x ≡ Some y
  in_front [] ys x y h = absurd (cc)
  in_front (i ∷ xs) ys x y h = go (bytes_eq (name_of i) x) refl (in_front xs ys x y)
    where
      go : (b : Bool) → bytes_eq (name_of i) x ≡ b → (first_named name_of xs x ≡ Some y → first_named name_of (xs ++ ys) x ≡ Some y)
          → first_named name_of (i ∷ xs ++ ys) x ≡ Some y
      go true e further = rw e (rw e at h)
      go false e further = rw e (further (rw e at h))

  other_last : (xs : List A) (i : A) (x : List ℕ) → (name_of i ≡ x → ⊥) → first_named name_of (xs ++ i ∷ []) x ≡ first_named name_of xs x
  other_last [] i x h = found_later name_of x i [] h
  other_last (j ∷ xs) i x h = go (bytes_eq (name_of j) x) refl (other_last xs i x h)
    where
      go : (b : Bool) → bytes_eq (name_of j) x ≡ b → first_named name_of (xs ++ i ∷ []) x ≡ first_named name_of xs x
          → first_named name_of (j ∷ xs ++ i ∷ []) x ≡ first_named name_of (j ∷ xs) x
      go true e further = rw e refl
      go false e further = rw e further

  new_last : (xs : List A) (i : A) (x : List ℕ) → name_of i ≡ x → first_named name_of xs x ≡ None → first_named name_of (xs ++ i ∷ []) x ≡ Some i
  new_last [] i x e h = found_head name_of x i [] e
  new_last (j ∷ xs) i x e h = go (bytes_eq (name_of j) x) refl (new_last xs i x e)
    where
      go : (b : Bool) → bytes_eq (name_of j) x ≡ b → (first_named name_of xs x ≡ None → first_named name_of (xs ++ i ∷ []) x ≡ Some i)
          → first_named name_of (j ∷ xs ++ i ∷ []) x ≡ Some i
      go true f further = absurd (let g : Some j ≡ None = rw f at h in cc)
      go false f further = rw f (further (rw f at h))

  -- an item of a name that is there already changes nothing
  pub known_name : (xs : List A) (i y : A) (x : List ℕ) → first_named name_of xs (name_of i) ≡ Some y → first_named name_of (xs ++ i ∷ []) x ≡ first_named name_of xs x
  known_name xs i y x h = go (bytes_eq (name_of i) x) refl
    where
      go : (b : Bool) → bytes_eq (name_of i) x ≡ b → first_named name_of (xs ++ i ∷ []) x ≡ first_named name_of xs x
      go true e =
          let there = subst (λ z. first_named name_of xs z ≡ Some y) (same_bytes (name_of i) x e) h in
          in_front xs (i ∷ []) x y there ∙ sym there
      go false e = other_last xs i x (λ same. let t = bytes_same (name_of i) x same in absurd (cc))

  -- an item of a new name is found by it, and the others as before
  pub new_name : (xs : List A) (i : A) (x : List ℕ) → first_named name_of xs (name_of i) ≡ None
      → first_named name_of (xs ++ i ∷ []) x ≡ cond (bytes_eq (name_of i) x) (Some i) (first_named name_of xs x)
  new_name xs i x h = go (bytes_eq (name_of i) x) refl
    where
      go : (b : Bool) → bytes_eq (name_of i) x ≡ b → first_named name_of (xs ++ i ∷ []) x ≡ cond b (Some i) (first_named name_of xs x)
      go true e = new_last xs i x (same_bytes (name_of i) x e) (subst (λ z. first_named name_of xs z ≡ None) (same_bytes (name_of i) x e) h)
      go false e = other_last xs i x (λ same. let t = bytes_same (name_of i) x same in absurd (cc))

-- a name that is not found is that of no item
pub not_among : {A : Type 0} (name_of : A → List ℕ) (items : List A) (x : List ℕ) → first_named name_of items x ≡ None → (i : A) → Contains items i
    → name_of i ≢ x
not_among name_of [] x is i c e = absurd (omega (arith, c.1))
not_among name_of (j ∷ items) x is i c e = go (bytes_eq (name_of j) x) refl (not_among name_of items x)
  where
    go : (b : Bool) → bytes_eq (name_of j) x ≡ b → (first_named name_of items x ≡ None → (k : _) → Contains items k → name_of k ≢ x) → ⊥
    go true h further = let found = found_head name_of x j items (same_bytes (name_of j) x h) in cc
    go false h further =
        contains_cases ⊥ j i items
        (λ same. let found = found_head name_of x j items (ap name_of same ∙ e) in cc)
        (λ later. further (sym (found_later name_of x j items (λ f. let t = bytes_same (name_of j) x f in cc)) ∙ is) i later e) c
