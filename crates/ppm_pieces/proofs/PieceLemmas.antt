-- The pieces of bytes between separators.
use Rattle.std.proofs.Common.{◌≡◌, ℕ, suc, ◌+◌, ◌<◌, ◌≤◌, ◌==◌, Bool, true, false, not, cond, List, [], ◌∷◌, length, take, drop, Some, None, refl, ap, arith}
use Rattle.std.specs.List.{prefix_len}
use Rattle.ppm_pieces.specs.Pieces.{in_front, split, halves_of, more_in_front}

-- a run stands within the bytes
pub prefix_le : (p : ℕ → Bool) (xs : List ℕ) → prefix_len p xs ≤ length xs
prefix_le p [] = omega arith
prefix_le p (x ∷ xs) = go (p x) (prefix_le p xs)
  where
    go : (b : Bool) → prefix_len p xs ≤ length xs → cond b (1 + prefix_len p xs) 0 ≤ length (x ∷ xs)
    go true h = omega arith
    go false h = omega arith

-- the bytes in front of the first separator
abbrev pub front : ℕ → List ℕ → ℕ
front separator bs = prefix_len (λ b. not (b == separator)) bs

-- without a separator there is one piece
pub split_whole : (separator : ℕ) (bs : List ℕ) → length bs ≤ front separator bs → split separator bs ≡ bs ∷ []
split_whole separator [] h = refl
split_whole separator (b ∷ bs) h = go (b == separator) refl (split_whole separator bs) h
  where
    go : (same : Bool) → (b == separator) ≡ same → (length bs ≤ front separator bs → split separator bs ≡ bs ∷ [])
        → length (b ∷ bs) ≤ cond (not same) (1 + front separator bs) 0
        → cond same ([] ∷ split separator bs) (in_front b (split separator bs)) ≡ (b ∷ bs) ∷ []
    go true e f h = absurd (omega (arith, h))
    go false e f h = ap (in_front b) (f (omega (arith, h)))

-- else the first piece is in front of it, and the others are those after it
pub split_first : (separator : ℕ) (bs : List ℕ) → front separator bs < length bs
    → split separator bs ≡ take (front separator bs) bs ∷ split separator (drop (front separator bs + 1) bs)
split_first separator [] h = absurd (omega (arith, h))
split_first separator (b ∷ bs) h = go (b == separator) refl (split_first separator bs) h
  where
    go : (same : Bool) → (b == separator) ≡ same
        → (front separator bs < length bs → split separator bs ≡ take (front separator bs) bs ∷ split separator (drop (front separator bs + 1) bs))
        → cond (not same) (1 + front separator bs) 0 < length (b ∷ bs)
        → cond same ([] ∷ split separator bs) (in_front b (split separator bs))
        ≡ take (cond (not same) (1 + front separator bs) 0) (b ∷ bs) ∷ split separator (drop (cond (not same) (1 + front separator bs) 0 + 1) (b ∷ bs))
    go true e f h = refl
    go false e f h =
        let one : 1 + front separator bs ≡ suc (front separator bs) = omega arith in
        let two : suc (front separator bs) + 1 ≡ suc (front separator bs + 1) = omega arith in
        rw (one, two) (ap (in_front b) (f (omega (arith, h))))

-- without a separator there are no halves
pub halves_none : (separator : ℕ) (bs : List ℕ) → length bs ≤ front separator bs → halves_of separator bs ≡ None
halves_none separator [] h = refl
halves_none separator (b ∷ bs) h = go (b == separator) refl (halves_none separator bs) h
  where
    go : (same : Bool) → (b == separator) ≡ same → (length bs ≤ front separator bs → halves_of separator bs ≡ None)
        → length (b ∷ bs) ≤ cond (not same) (1 + front separator bs) 0
        → cond same (Some ([], bs)) (more_in_front b (halves_of separator bs)) ≡ None
    go true e f h = absurd (omega (arith, h))
    go false e f h = ap (more_in_front b) (f (omega (arith, h)))

-- else they are in front of the first one and after it
pub halves_some : (separator : ℕ) (bs : List ℕ) → front separator bs < length bs
    → halves_of separator bs ≡ Some (take (front separator bs) bs, drop (front separator bs + 1) bs)
halves_some separator [] h = absurd (omega (arith, h))
halves_some separator (b ∷ bs) h = go (b == separator) refl (halves_some separator bs) h
  where
    go : (same : Bool) → (b == separator) ≡ same
        → (front separator bs < length bs → halves_of separator bs ≡ Some (take (front separator bs) bs, drop (front separator bs + 1) bs))
        → cond (not same) (1 + front separator bs) 0 < length (b ∷ bs)
        → cond same (Some ([], bs)) (more_in_front b (halves_of separator bs))
        ≡ Some (take (cond (not same) (1 + front separator bs) 0) (b ∷ bs), drop (cond (not same) (1 + front separator bs) 0 + 1) (b ∷ bs))
    go true e f h = refl
    go false e f h =
        let one : 1 + front separator bs ≡ suc (front separator bs) = omega arith in
        let two : suc (front separator bs) + 1 ≡ suc (front separator bs + 1) = omega arith in
        rw (one, two) (ap (more_in_front b) (f (omega (arith, h))))
