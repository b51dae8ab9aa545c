-- Bytes cut at a separator, and pieces put together with it.
use Rattle.std.proofs.Common.{◌≡◌, ◌∙◌, ◌⊎◌, inl, inr, ℕ, ◌==◌, Bool, true, false, not, cond, List, [], ◌∷◌, ◌++◌, Option, Some, None, refl, sym, ap, subst}
use Rattle.std.specs.List.{list_all}
use Rattle.std.specs.Cmp.Derive.{both_true}
use Rattle.std.proofs.lemmas.Bool.{both_ways, and_parts, eqb-true, eq-eqb}
use Rattle.ppm_pieces.specs.Pieces.{split, in_front, halves_of, more_in_front}
use Rattle.ppm_ram.specs.Text.{between}
use Rattle.ppm_ram.proofs.LoopLemmas.{some_piece}

-- bytes of a class
abbrev pub AreOf : (ℕ → Bool) → List ℕ → Type 0
AreOf p bytes = list_all p bytes ≡ true

pub wider : (p q : ℕ → Bool) → ((b : ℕ) → p b ≡ true → q b ≡ true) → (xs : List ℕ) → AreOf p xs → AreOf q xs
wider p q f [] h = refl
wider p q f (x ∷ xs) h = let k = and_parts (p x) (list_all p xs) h in both_true (f x k.0) (wider p q f xs k.1)

pub all_append : (p : ℕ → Bool) (xs ys : List ℕ) → AreOf p xs → AreOf p ys → AreOf p (xs ++ ys)
all_append p [] ys h k = k
all_append p (x ∷ xs) ys h k = let l = and_parts (p x) (list_all p xs) h in both_true l.0 (all_append p xs ys l.1 k)

-- a byte of a class that has not the separator is another one
other_byte : (p : ℕ → Bool) (s b : ℕ) → p s ≡ false → p b ≡ true → (b == s) ≡ false
other_byte p s b n h = by (b == s) refl
  where
    by : (same : Bool) → (b == s) ≡ same → same ≡ false
    by false e = refl
    by true e = absurd (both_ways (p s) n (ap p (sym (eqb-true b s e)) ∙ h))

-- such bytes are cut at the first separator after them
pub halves_at : (p : ℕ → Bool) (s : ℕ) → p s ≡ false → (xs ys : List ℕ) → AreOf p xs → halves_of s (xs ++ s ∷ ys) ≡ Some (xs, ys)
halves_at p s n [] ys h = ap (λ (b : Bool). cond b (Some ([], ys)) (more_in_front s (halves_of s ys))) (eq-eqb s s refl)
halves_at p s n (b ∷ xs) ys h =
    let k = and_parts (p b) (list_all p xs) h in
    ap (λ (c : Bool). cond c (Some ([], xs ++ s ∷ ys)) (more_in_front b (halves_of s (xs ++ s ∷ ys)))) (other_byte p s b n k.0)
    ∙ ap (more_in_front b) (halves_at p s n xs ys k.1)

pub split_at : (p : ℕ → Bool) (s : ℕ) → p s ≡ false → (xs ys : List ℕ) → AreOf p xs → split s (xs ++ s ∷ ys) ≡ xs ∷ split s ys
split_at p s n [] ys h = ap (λ (b : Bool). cond b ([] ∷ split s ys) (in_front s (split s ys))) (eq-eqb s s refl)
split_at p s n (b ∷ xs) ys h =
    let k = and_parts (p b) (list_all p xs) h in
    ap (λ (c : Bool). cond c ([] ∷ split s (xs ++ s ∷ ys)) (in_front b (split s (xs ++ s ∷ ys)))) (other_byte p s b n k.0)
    ∙ ap (in_front b) (split_at p s n xs ys k.1)

pub split_whole : (p : ℕ → Bool) (s : ℕ) → p s ≡ false → (xs : List ℕ) → AreOf p xs → split s xs ≡ xs ∷ []
split_whole p s n [] h = refl
split_whole p s n (b ∷ xs) h =
    let k = and_parts (p b) (list_all p xs) h in
    ap (λ (c : Bool). cond c ([] ∷ split s xs) (in_front b (split s xs))) (other_byte p s b n k.0) ∙ ap (in_front b) (split_whole p s n xs k.1)

-- pieces of such bytes are found again
pub split_between : (p : ℕ → Bool) (s : ℕ) → p s ≡ false → (x : List ℕ) (xs : List (List ℕ)) → AreOf p x → list_all (list_all p) xs ≡ true
    → split s (between s (x ∷ xs)) ≡ x ∷ xs
split_between p s n x [] h k = split_whole p s n x h
split_between p s n x (y ∷ ys) h k =
    let l = and_parts (list_all p y) (list_all (list_all p) ys) k in
    split_at p s n x (between s (y ∷ ys)) h ∙ ap (λ (l : List (List ℕ)). x ∷ l) (split_between p s n y ys l.0 l.1)

-- bytes are their halves with the separator between them
abbrev some_of : {A : Type 0} → A → Option A → A
some_of d None = d
some_of d (Some x) = x

pub halves_back : (s : ℕ) (t l r : List ℕ) → halves_of s t ≡ Some (l, r) → t ≡ l ++ s ∷ r
halves_back s [] l r e = absurd (cc)
halves_back s (b ∷ bs) l r e = by (b == s) refl (halves_back s bs) e
  where
    deep : (o : Option (List ℕ × List ℕ)) → ((x y : List ℕ) → o ≡ Some (x, y) → bs ≡ x ++ s ∷ y) → more_in_front b o ≡ Some (l, r)
        → b ∷ bs ≡ l ++ s ∷ r
    deep None f e = absurd (cc)
    deep (Some (x, y)) f e =
        ap (λ (k : List ℕ). b ∷ k) (f x y refl)
        ∙ ap (λ (o : Option (List ℕ × List ℕ)). (some_of (b ∷ x, y) o).0 ++ s ∷ (some_of (b ∷ x, y) o).1) e

    by : (same : Bool) → (b == s) ≡ same → ((x y : List ℕ) → halves_of s bs ≡ Some (x, y) → bs ≡ x ++ s ∷ y)
        → cond same (Some ([], bs)) (more_in_front b (halves_of s bs)) ≡ Some (l, r) → b ∷ bs ≡ l ++ s ∷ r
    by true t f e =
        ap (λ (n : ℕ). n ∷ bs) (eqb-true b s t)
        ∙ ap (λ (o : Option (List ℕ × List ℕ)). (some_of ([], bs) o).0 ++ s ∷ (some_of ([], bs) o).1) e
    by false t f e = deep (halves_of s bs) f e

-- and the pieces with it between two
first_longer : (s b : ℕ) (p : List ℕ) (ps : List (List ℕ)) → between s ((b ∷ p) ∷ ps) ≡ b ∷ between s (p ∷ ps)
first_longer s b p [] = refl
first_longer s b p (q ∷ qs) = refl

pub between_split : (s : ℕ) (t : List ℕ) → between s (split s t) ≡ t
between_split s [] = refl
between_split s (b ∷ bs) = by (b == s) refl (some_piece s bs) (between_split s bs)
  where
    by : (same : Bool) → (b == s) ≡ same → (p : List ℕ) × (ps : List (List ℕ)) × (split s bs ≡ p ∷ ps) → between s (split s bs) ≡ bs
        → between s (cond same ([] ∷ split s bs) (in_front b (split s bs))) ≡ b ∷ bs
    by true t (p, ps, is) e =
        ap (λ (l : List (List ℕ)). between s ([] ∷ l)) is ∙ ap (λ (l : List (List ℕ)). s ∷ between s l) (sym is)
        ∙ ap (λ (l : List ℕ). s ∷ l) e ∙ ap (λ (n : ℕ). n ∷ bs) (sym (eqb-true b s t))
    by false t (p, ps, is) e =
        ap (λ (l : List (List ℕ)). between s (in_front b l)) is ∙ first_longer s b p ps
        ∙ ap (λ (l : List (List ℕ)). b ∷ between s l) (sym is) ∙ ap (λ (l : List ℕ). b ∷ l) e
