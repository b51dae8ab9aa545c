-- Elements of a list and of its images.
use Rattle.std.proofs.lemmas.List.{take_more, take_all}
use Rattle.std.proofs.lemmas.List.Elements.{Contains-push_cases}
use Rattle.ppm_regions.specs.Deciding.{HasOne}
use Rattle.std.proofs.Common.{◌≡◌, inl, inr, ℕ, zero, suc, ◌+◌, ◌<◌, ◌≤◌, take, get_or, sym, ◌∙◌, List, [], ◌∷◌, ◌++◌, length, map, slice_index_or, refl, ap, subst, arith}
use Rattle.std.specs.List.{Contains}

pub contains_head : {A : Type 0} (x : A) (xs : List A) → Contains (x ∷ xs) x
contains_head x xs = (0, (omega arith), refl)

pub contains_tail : {A : Type 0} (y x : A) (xs : List A) → Contains xs x → Contains (y ∷ xs) x
contains_tail y x xs c = (suc c.0, (omega arith), c.2)

-- an element of a list with a head is the head or in the tail
pub contains_cases : {A : Type 0} (M : Type 0) (y x : A) (xs : List A) → (y ≡ x → M) → (Contains xs x → M) → Contains (y ∷ xs) x → M
contains_cases M y x xs first later c = go c.0 c.1 c.2
  where
    go : (k : ℕ) → k < length (y ∷ xs) → slice_index_or (y ∷ xs) k x ≡ x → M
    go zero within e = first e
    go (suc k) within e = later (k, (omega arith), e)

pub contains_map : {A B : Type 0} (f : A → B) (x : A) (xs : List A) → Contains xs x → Contains (map f xs) (f x)
contains_map f x [] c = absurd (omega arith)
contains_map f x (y ∷ xs) c =
    contains_cases (Contains (f y ∷ map f xs) (f x)) y x xs
    (λ e. subst (λ z. Contains (f y ∷ map f xs) z) (ap f e) (contains_head (f y) (map f xs)))
    (λ d. contains_tail (f y) (f x) (map f xs) (contains_map f x xs d)) c

-- an image is the image of an element
pub contains_back : {A B : Type 0} (f : A → B) (z : B) (xs : List A) → Contains (map f xs) z → (x : A) × Contains xs x × (f x ≡ z)
contains_back f z [] c = absurd (omega arith)
contains_back {A} f z (y ∷ xs) c =
    contains_cases ((x : A) × Contains (y ∷ xs) x × (f x ≡ z)) (f y) z (map f xs)
    (λ e. (y, contains_head y xs, e))
    (λ d. let w = contains_back f z xs d in (w.0, contains_tail y w.0 xs w.1, w.2)) c

-- an element that a loop has come to
pub contains_at : {A : Type 0} (xs : List A) (i : ℕ) (x : A) → i < length xs → x ≡ get_or xs i x → Contains xs x
contains_at xs i x in' at = (i, in', sym at)

-- none of a list's front, and one more that is none
pub none_more : {A : Type 0} (P : A → Type 0) (xs : List A) (i : ℕ) (x : A) → i < length xs → x ≡ get_or xs i x
    → ¬ HasOne P (take i xs) → ¬ P x → ¬ HasOne P (take (i + 1) xs)
none_more P xs i x in' at none here one =
    let next = take_more xs i x in' ∙ ap (λ y. take i xs ++ (y ∷ [])) (sym at) in
    elim (Contains-push_cases (take i xs) x one.0 (subst (λ ys. Contains ys one.0) next one.1)) [
      | inl c ↦ none (one.0, c, one.2)
      | inr e ↦ here (subst P (sym e) one.2)
    ]

pub none_all : {A : Type 0} (P : A → Type 0) (xs : List A) (i : ℕ) → length xs ≤ i → ¬ HasOne P (take i xs) → ¬ HasOne P xs
none_all P xs i past none one = none (subst (λ ys. HasOne P ys) (sym (take_all i xs past)) one)

pub none_first : {A : Type 0} (P : A → Type 0) (xs : List A) → ¬ HasOne P (take 0 xs)
none_first P [] one = let h = one.1 in absurd (omega arith)
none_first P (x ∷ xs) one = let h = one.1 in absurd (omega arith)
