-- Where bytes are cut, and what the first line of a text says.
use Rattle.std.proofs.Common.{◌≡◌, ◌≢◌, ◌∙◌, ◌⊎◌, inl, inr, ℕ, ◌==◌, Bool, true, false, cond, List, [], ◌∷◌, ◌++◌, Option, Some, None, refl, ap}
use Rattle.std.specs.List.{list_all}
use Rattle.std.specs.Option.{option_map}
use Rattle.std.proofs.lemmas.Bool.{both_ways, and_parts}
use Rattle.std.proofs.lemmas.Bool.Decides.{eqb_tells}
use Rattle.ppm_pieces.specs.Pieces.{split, in_front, halves_of, more_in_front}
use Rattle.ppm_listing.proofs.TextLemmas.{cons_path}
use Rattle.ppm_saved_reader.specs.Lines.{said_by, first_line}
use Rattle.ppm_saved_reader.proofs.OptionLemmas.{some_same, not_both, first_part, second_part}

-- a number is another one, or the same
abbrev Tells : Bool → (b s : ℕ) → Type 0
Tells same b s = ((same ≡ true) × (b ≡ s)) ⊎ ((same ≡ false) × (b ≢ s))

-- bytes of a class that has not the separator stand in front of it
pub halves_at : (p : ℕ → Bool) (s : ℕ) → p s ≡ false → (xs ys : List ℕ) → list_all p xs ≡ true → halves_of s (xs ++ s ∷ ys) ≡ Some (xs, ys)
halves_at p s n [] ys h = by (s == s) (eqb_tells s s)
  where
    by : (same : Bool) → Tells same s s → cond same (Some ([], ys)) (more_in_front s (halves_of s ys)) ≡ Some ([], ys)
    by true t = refl
    by false (inl t) = absurd (both_ways false refl t.0)
    by false (inr t) = absurd (t.1 refl)
halves_at p s n (b ∷ xs) ys h = by (b == s) (eqb_tells b s) (halves_at p s n xs ys (and_parts (p b) (list_all p xs) h).1)
  where
    by : (same : Bool) → Tells same b s → halves_of s (xs ++ s ∷ ys) ≡ Some (xs, ys)
        → cond same (Some ([], xs ++ s ∷ ys)) (more_in_front b (halves_of s (xs ++ s ∷ ys))) ≡ Some (b ∷ xs, ys)
    by true (inl t) e = absurd (both_ways (p b) (ap p t.1 ∙ n) (and_parts (p b) (list_all p xs) h).0)
    by true (inr t) e = absurd (both_ways true t.0 refl)
    by false t e = ap (more_in_front b) e

-- without the separator bytes are not cut
pub halves_off : (p : ℕ → Bool) (s : ℕ) → p s ≡ false → (xs : List ℕ) → list_all p xs ≡ true → halves_of s xs ≡ None
halves_off p s n [] h = refl
halves_off p s n (b ∷ xs) h = by (b == s) (eqb_tells b s) (halves_off p s n xs (and_parts (p b) (list_all p xs) h).1)
  where
    by : (same : Bool) → Tells same b s → halves_of s xs ≡ None → cond same (Some ([], xs)) (more_in_front b (halves_of s xs)) ≡ None
    by true (inl t) e = absurd (both_ways (p b) (ap p t.1 ∙ n) (and_parts (p b) (list_all p xs) h).0)
    by true (inr t) e = absurd (both_ways true t.0 refl)
    by false t e = ap (more_in_front b) e

-- after bytes without it a text is cut where it was
pub halves_behind : (p : ℕ → Bool) (s : ℕ) → p s ≡ false → (xs ys l r : List ℕ) → list_all p xs ≡ true → halves_of s ys ≡ Some (l, r)
    → halves_of s (xs ++ ys) ≡ Some (xs ++ l, r)
halves_behind p s n [] ys l r h e = e
halves_behind p s n (b ∷ xs) ys l r h e = by (b == s) (eqb_tells b s) (halves_behind p s n xs ys l r (and_parts (p b) (list_all p xs) h).1 e)
  where
    by : (same : Bool) → Tells same b s → halves_of s (xs ++ ys) ≡ Some (xs ++ l, r)
        → cond same (Some ([], xs ++ ys)) (more_in_front b (halves_of s (xs ++ ys))) ≡ Some (b ∷ (xs ++ l), r)
    by true (inl t) e = absurd (both_ways (p b) (ap p t.1 ∙ n) (and_parts (p b) (list_all p xs) h).0)
    by true (inr t) e = absurd (both_ways true t.0 refl)
    by false t e = ap (more_in_front b) e

-- bytes are their halves with the separator between them
pub halves_back : (s : ℕ) (t l r : List ℕ) → halves_of s t ≡ Some (l, r) → t ≡ l ++ s ∷ r
halves_back s [] l r e = absurd (not_both refl e)
halves_back s (b ∷ bs) l r e = by (b == s) (eqb_tells b s) (halves_back s bs) e
  where
    deep : (o : Option (List ℕ × List ℕ)) → ((x y : List ℕ) → o ≡ Some (x, y) → bs ≡ x ++ s ∷ y) → more_in_front b o ≡ Some (l, r)
        → b ∷ bs ≡ l ++ s ∷ r
    deep None f e = absurd (not_both refl e)
    deep (Some (x, y)) f e =
        ap (λ (k : List ℕ). b ∷ k) (f x y refl) ∙ ap (λ (k : List ℕ × List ℕ). k.0 ++ s ∷ k.1) (some_same e)

    by : (same : Bool) → Tells same b s → ((x y : List ℕ) → halves_of s bs ≡ Some (x, y) → bs ≡ x ++ s ∷ y)
        → cond same (Some ([], bs)) (more_in_front b (halves_of s bs)) ≡ Some (l, r) → b ∷ bs ≡ l ++ s ∷ r
    by true (inl t) f e = cons_path t.1 refl ∙ ap (λ (k : List ℕ × List ℕ). k.0 ++ s ∷ k.1) (some_same e)
    by true (inr t) f e = absurd (both_ways true t.0 refl)
    by false t f e = deep (halves_of s bs) f e

-- the first piece is the first half
pub split_some : (s : ℕ) (t l r : List ℕ) → halves_of s t ≡ Some (l, r) → split s t ≡ l ∷ split s r
split_some s [] l r e = absurd (not_both refl e)
split_some s (b ∷ bs) l r e = by (b == s) (split_some s bs) e
  where
    deep : (o : Option (List ℕ × List ℕ)) → ((x y : List ℕ) → o ≡ Some (x, y) → split s bs ≡ x ∷ split s y) → more_in_front b o ≡ Some (l, r)
        → in_front b (split s bs) ≡ l ∷ split s r
    deep None f e = absurd (not_both refl e)
    deep (Some (x, y)) f e = ap (in_front b) (f x y refl) ∙ ap (λ (k : List ℕ × List ℕ). k.0 ∷ split s k.1) (some_same e)

    by : (same : Bool) → ((x y : List ℕ) → halves_of s bs ≡ Some (x, y) → split s bs ≡ x ∷ split s y)
        → cond same (Some ([], bs)) (more_in_front b (halves_of s bs)) ≡ Some (l, r)
        → cond same ([] ∷ split s bs) (in_front b (split s bs)) ≡ l ∷ split s r
    by true f e = ap (λ (k : List ℕ × List ℕ). k.0 ∷ split s k.1) (some_same e)
    by false f e = deep (halves_of s bs) f e

-- there is a piece at least
pub some_piece : (s : ℕ) (t : List ℕ) → (p : List ℕ) × (ps : List (List ℕ)) × (split s t ≡ p ∷ ps)
some_piece s [] = ([], [], refl)
some_piece s (b ∷ bs) = by (b == s) (split s bs)
  where
    by : (same : Bool) (l : List (List ℕ)) → (p : List ℕ) × (ps : List (List ℕ)) × (cond same ([] ∷ l) (in_front b l) ≡ p ∷ ps)
    by true l = ([], l, refl)
    by false [] = (b ∷ [], [], refl)
    by false (p ∷ ps) = (b ∷ p, ps, refl)

-- the first line of a text says what its bytes say, if there is one
pub first_line_some : {A : Type 0} (form : List ℕ → Option A) (t l r : List ℕ) (a : A) → halves_of 10 t ≡ Some (l, r) → form l ≡ Some a
    → first_line form t ≡ Some (a, r)
first_line_some {A} form t l r a e f = ap (said_by form) e ∙ ap (option_map (λ (a : A). (a, r))) f

pub first_line_none : {A : Type 0} (form : List ℕ → Option A) (t l r : List ℕ) → halves_of 10 t ≡ Some (l, r) → form l ≡ None
    → first_line form t ≡ None
first_line_none {A} form t l r e f = ap (said_by form) e ∙ ap (option_map (λ (a : A). (a, r))) f

pub first_line_missing : {A : Type 0} (form : List ℕ → Option A) (t : List ℕ) → halves_of 10 t ≡ None → first_line form t ≡ None
first_line_missing form t e = ap (said_by form) e

-- a text whose first line says something is cut after that line
pub first_line_back : {A : Type 0} (form : List ℕ → Option A) (t r : List ℕ) (a : A) → first_line form t ≡ Some (a, r)
    → (l : List ℕ) × (form l ≡ Some a) × (halves_of 10 t ≡ Some (l, r))
first_line_back {A} form t r a e = by (halves_of 10 t) refl e
  where
    deep : (l x : List ℕ) → halves_of 10 t ≡ Some (l, x) → (o : Option A) → form l ≡ o → option_map {U = A × List ℕ} (λ (a : A). (a, x)) o ≡ Some (a, r)
        → (l : List ℕ) × (form l ≡ Some a) × (halves_of 10 t ≡ Some (l, r))
    deep l x k None f e = absurd (not_both refl e)
    deep l x k (Some b) f e =
        let q = some_same e in
        (l, f ∙ ap (λ (a : A). Some a) (first_part q), k ∙ ap (λ (x : List ℕ). Some (l, x)) (second_part q))

    by : (h : Option (List ℕ × List ℕ)) → halves_of 10 t ≡ h → said_by form h ≡ Some (a, r)
        → (l : List ℕ) × (form l ≡ Some a) × (halves_of 10 t ≡ Some (l, r))
    by None k e = absurd (not_both refl e)
    by (Some (l, x)) k e = deep l x k (form l) refl e
