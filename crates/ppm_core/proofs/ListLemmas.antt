-- Lists with one element changed, or one more.
use Rattle.std.proofs.Common.{◌≡◌, ◌<◌, ℕ, zero, suc, List, [], ◌∷◌, ◌++◌, length, set, slice_get, Some, ◌⊎◌, inl, inr, refl, ap, arith}

-- what stands at a place, where one has changed
again : {X : Type 0} (n m : ℕ) (x y : X) (zs : List X) → ((m ≡ n) × (x ≡ y)) ⊎ (slice_get zs m ≡ Some y)
    → ((suc m ≡ suc n) × (x ≡ y)) ⊎ (slice_get zs m ≡ Some y)
again n m x y zs (inl p) = inl (ap (λ k. suc k) p.0, p.1)
again n m x y zs (inr p) = inr p

pub get_set : {X : Type 0} (xs : List X) (n m : ℕ) (x y : X) → slice_get (set xs n x) m ≡ Some y
    → ((m ≡ n) × (x ≡ y)) ⊎ (slice_get xs m ≡ Some y)
get_set [] n m x y e = inr e
get_set (z ∷ zs) zero zero x y e = inl (refl, cc)
get_set (z ∷ zs) zero (suc m) x y e = inr e
get_set (z ∷ zs) (suc n) zero x y e = inr e
get_set (z ∷ zs) (suc n) (suc m) x y e = again n m x y zs (get_set zs n m x y e)

-- at the changed one
pub get_changed : {X : Type 0} (xs : List X) (n : ℕ) (x y : X) → slice_get xs n ≡ Some y → slice_get (set xs n x) n ≡ Some x
get_changed [] n x y e = cc
get_changed (z ∷ zs) zero x y e = refl
get_changed (z ∷ zs) (suc n) x y e = get_changed zs n x y e

-- what stands at a place stands within
pub get_there : {X : Type 0} (xs : List X) (n : ℕ) (x : X) → slice_get xs n ≡ Some x → n < length xs
get_there [] n x e = absurd cc
get_there (z ∷ zs) zero x e = omega arith
get_there (z ∷ zs) (suc n) x e = omega (arith, get_there zs n x e)

-- what stands there put there again
pub set_same : {X : Type 0} (xs : List X) (n : ℕ) (x : X) → slice_get xs n ≡ Some x → set xs n x ≡ xs
set_same [] n x e = refl
set_same (z ∷ zs) zero x e = let same : x ≡ z = cc in ap (λ a. a ∷ zs) same
set_same (z ∷ zs) (suc n) x e = ap (λ l. z ∷ l) (set_same zs n x e)

-- one more
next_place : {X : Type 0} (m : ℕ) (y z : X) (xs : List X) → (slice_get xs m ≡ Some z) ⊎ ((m ≡ length xs) × (y ≡ z))
    → (slice_get xs m ≡ Some z) ⊎ ((suc m ≡ suc (length xs)) × (y ≡ z))
next_place m y z xs (inl p) = inl p
next_place m y z xs (inr p) = inr (ap (λ k. suc k) p.0, p.1)

pub get_pushed : {X : Type 0} (xs : List X) (m : ℕ) (y z : X) → slice_get (xs ++ y ∷ []) m ≡ Some z
    → (slice_get xs m ≡ Some z) ⊎ ((m ≡ length xs) × (y ≡ z))
get_pushed [] zero y z e = inr (refl, cc)
get_pushed [] (suc m) y z e = cc
get_pushed (x ∷ xs) zero y z e = inl e
get_pushed (x ∷ xs) (suc m) y z e = next_place m y z xs (get_pushed xs m y z e)
