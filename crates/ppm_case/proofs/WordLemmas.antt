-- Where bytes are cut, and words that are put together again.
use Rattle.std.proofs.Common.{◌≡◌, ◌≢◌, ◌∙◌, ◌⊎◌, inl, inr, ℕ, ◌==◌, Bool, true, false, ◌&&◌, ◌||◌, cond, List, [], ◌∷◌, ◌++◌, Option, Some, None, refl, sym, ap}
use Rattle.std.specs.List.{list_all, flat_map}
use Rattle.std.specs.Cmp.Derive.{both_true}
use Rattle.std.proofs.lemmas.Bool.{both_ways, and_parts}
use Rattle.std.proofs.lemmas.Bool.Decides.{eqb_tells}
use Rattle.std.proofs.lemmas.List.{append-nil}
use Rattle.ppm_words.specs.Names.{is_name_byte}
use Rattle.ppm_pieces.specs.Pieces.{split, in_front, halves_of, more_in_front}
use Rattle.ppm_case.specs.Spelling.{spaced, joined}
use Rattle.ppm_case.proofs.OptionLemmas.{some_same, not_both, or_left, or_right}

-- a number is another one, or the same
abbrev Tells : Bool → (b s : ℕ) → Type 0
Tells same b s = ((same ≡ true) × (b ≡ s)) ⊎ ((same ≡ false) × (b ≢ s))

-- bytes of a class that has not the separator stand in front of it
pub halves_at : (p : ℕ → Bool) (s : ℕ) → p s ≡ false → (xs ys : List ℕ) → list_all p xs ≡ true → halves_of s (xs ++ s ∷ ys) ≡ Some (xs, ys)
halves_at p s n [] ys h = by (s == s) (eqb_tells s s)
  where
    by : (same : Bool) → Tells same s s → cond same (Some ([], ys)) (more_in_front s (halves_of s ys)) ≡ Some ([], ys)
    by true t = refl
    by false (inl t) = absurd (both_ways false refl t.0)
    by false (inr t) = absurd (t.1 refl)
halves_at p s n (b ∷ xs) ys h = by (b == s) (eqb_tells b s) (halves_at p s n xs ys (and_parts (p b) (list_all p xs) h).1)
  where
    by : (same : Bool) → Tells same b s → halves_of s (xs ++ s ∷ ys) ≡ Some (xs, ys)
        → cond same (Some ([], xs ++ s ∷ ys)) (more_in_front b (halves_of s (xs ++ s ∷ ys))) ≡ Some (b ∷ xs, ys)
    by true (inl t) e = absurd (both_ways (p b) (ap p t.1 ∙ n) (and_parts (p b) (list_all p xs) h).0)
    by true (inr t) e = absurd (both_ways true t.0 refl)
    by false t e = ap (more_in_front b) e

-- without the separator bytes are not cut
pub halves_off : (p : ℕ → Bool) (s : ℕ) → p s ≡ false → (xs : List ℕ) → list_all p xs ≡ true → halves_of s xs ≡ None
halves_off p s n [] h = refl
halves_off p s n (b ∷ xs) h = by (b == s) (eqb_tells b s) (halves_off p s n xs (and_parts (p b) (list_all p xs) h).1)
  where
    by : (same : Bool) → Tells same b s → halves_of s xs ≡ None → cond same (Some ([], xs)) (more_in_front b (halves_of s xs)) ≡ None
    by true (inl t) e = absurd (both_ways (p b) (ap p t.1 ∙ n) (and_parts (p b) (list_all p xs) h).0)
    by true (inr t) e = absurd (both_ways true t.0 refl)
    by false t e = ap (more_in_front b) e

-- bytes are their halves with the separator between them
pub halves_back : (s : ℕ) (t l r : List ℕ) → halves_of s t ≡ Some (l, r) → t ≡ l ++ s ∷ r
halves_back s [] l r e = absurd (not_both refl e)
halves_back s (b ∷ bs) l r e = by (b == s) (eqb_tells b s) (halves_back s bs) e
  where
    deep : (o : Option (List ℕ × List ℕ)) → ((x y : List ℕ) → o ≡ Some (x, y) → bs ≡ x ++ s ∷ y) → more_in_front b o ≡ Some (l, r)
        → b ∷ bs ≡ l ++ s ∷ r
    deep None f e = absurd (not_both refl e)
    deep (Some (x, y)) f e =
        ap (λ (k : List ℕ). b ∷ k) (f x y refl) ∙ ap (λ (k : List ℕ × List ℕ). k.0 ++ s ∷ k.1) (some_same e)

    by : (same : Bool) → Tells same b s → ((x y : List ℕ) → halves_of s bs ≡ Some (x, y) → bs ≡ x ++ s ∷ y)
        → cond same (Some ([], bs)) (more_in_front b (halves_of s bs)) ≡ Some (l, r) → b ∷ bs ≡ l ++ s ∷ r
    by true (inl t) f e = ap (λ (n : ℕ). n ∷ bs) t.1 ∙ ap (λ (k : List ℕ × List ℕ). k.0 ++ s ∷ k.1) (some_same e)
    by true (inr t) f e = absurd (both_ways true t.0 refl)
    by false t f e = deep (halves_of s bs) f e

-- the first piece is the first half
pub split_some : (s : ℕ) (t l r : List ℕ) → halves_of s t ≡ Some (l, r) → split s t ≡ l ∷ split s r
split_some s [] l r e = absurd (not_both refl e)
split_some s (b ∷ bs) l r e = by (b == s) (split_some s bs) e
  where
    deep : (o : Option (List ℕ × List ℕ)) → ((x y : List ℕ) → o ≡ Some (x, y) → split s bs ≡ x ∷ split s y) → more_in_front b o ≡ Some (l, r)
        → in_front b (split s bs) ≡ l ∷ split s r
    deep None f e = absurd (not_both refl e)
    deep (Some (x, y)) f e = ap (in_front b) (f x y refl) ∙ ap (λ (k : List ℕ × List ℕ). k.0 ∷ split s k.1) (some_same e)

    by : (same : Bool) → ((x y : List ℕ) → halves_of s bs ≡ Some (x, y) → split s bs ≡ x ∷ split s y)
        → cond same (Some ([], bs)) (more_in_front b (halves_of s bs)) ≡ Some (l, r)
        → cond same ([] ∷ split s bs) (in_front b (split s bs)) ≡ l ∷ split s r
    by true f e = ap (λ (k : List ℕ × List ℕ). k.0 ∷ split s k.1) (some_same e)
    by false f e = deep (halves_of s bs) f e

-- bytes that are not cut are one piece
pub split_none : (s : ℕ) (t : List ℕ) → halves_of s t ≡ None → split s t ≡ t ∷ []
split_none s [] e = refl
split_none s (b ∷ bs) e = by (b == s) (split_none s bs) e
  where
    deep : (o : Option (List ℕ × List ℕ)) → (o ≡ None → split s bs ≡ bs ∷ []) → more_in_front b o ≡ None → in_front b (split s bs) ≡ (b ∷ bs) ∷ []
    deep None f e = ap (in_front b) (f refl)
    deep (Some (x, y)) f e = absurd (not_both e refl)

    by : (same : Bool) → (halves_of s bs ≡ None → split s bs ≡ bs ∷ []) → cond same (Some ([], bs)) (more_in_front b (halves_of s bs)) ≡ None
        → cond same ([] ∷ split s bs) (in_front b (split s bs)) ≡ (b ∷ bs) ∷ []
    by true f e = absurd (not_both e refl)
    by false f e = deep (halves_of s bs) f e

-- there is a piece at least
pub some_piece : (s : ℕ) (t : List ℕ) → (p : List ℕ) × (ps : List (List ℕ)) × (split s t ≡ p ∷ ps)
some_piece s [] = ([], [], refl)
some_piece s (b ∷ bs) = by (b == s) (split s bs)
  where
    by : (same : Bool) (l : List (List ℕ)) → (p : List ℕ) × (ps : List (List ℕ)) × (cond same ([] ∷ l) (in_front b l) ≡ p ∷ ps)
    by true l = ([], l, refl)
    by false [] = (b ∷ [], [], refl)
    by false (p ∷ ps) = (b ∷ p, ps, refl)

-- a byte of a word: of a name, or a minus, or a star
abbrev pub is_piece : ℕ → Bool
is_piece b = is_name_byte b || (b == 45 || b == 42)

-- a byte of a line
abbrev pub is_text : ℕ → Bool
is_text b = is_piece b || b == 32

-- a class that is wider
pub all_wider : (p q : ℕ → Bool) → ((b : ℕ) → p b ≡ true → q b ≡ true) → (xs : List ℕ) → list_all p xs ≡ true → list_all q xs ≡ true
all_wider p q f [] h = refl
all_wider p q f (x ∷ xs) h = let k = and_parts (p x) (list_all p xs) h in both_true (f x k.0) (all_wider p q f xs k.1)

pub all_append : (p : ℕ → Bool) (xs ys : List ℕ) → list_all p xs ≡ true → list_all p ys ≡ true → list_all p (xs ++ ys) ≡ true
all_append p [] ys h k = k
all_append p (x ∷ xs) ys h k = let l = and_parts (p x) (list_all p xs) h in both_true l.0 (all_append p xs ys l.1 k)

-- words are what is cut of them
pub split_joined : (w : List ℕ) (ws : List (List ℕ)) → list_all is_piece w ≡ true → list_all (λ v. list_all is_piece v) ws ≡ true
    → split 32 (w ++ flat_map spaced ws) ≡ w ∷ ws
split_joined w [] h k = ap (λ (l : List ℕ). split 32 l) (append-nil w) ∙ split_none 32 w (halves_off is_piece 32 refl w h)
split_joined w (v ∷ vs) h k =
    let parts = and_parts (list_all is_piece v) (list_all (λ u. list_all is_piece u) vs) k in
    split_some 32 (w ++ 32 ∷ (v ++ flat_map spaced vs)) w (v ++ flat_map spaced vs) (halves_at is_piece 32 refl w (v ++ flat_map spaced vs) h)
    ∙ ap (λ (l : List (List ℕ)). w ∷ l) (split_joined v vs parts.0 parts.1)

-- and what is cut of bytes makes these again
joined_in_front : (b : ℕ) (l : List (List ℕ)) → joined (in_front b l) ≡ b ∷ joined l
joined_in_front b [] = refl
joined_in_front b (p ∷ ps) = refl

pub joined_split : (t : List ℕ) → joined (split 32 t) ≡ t
joined_split [] = refl
joined_split (b ∷ bs) = by (b == 32) (eqb_tells b 32) (joined_split bs)
  where
    after_space : (l : List (List ℕ)) (p : List ℕ) (ps : List (List ℕ)) → l ≡ p ∷ ps → joined ([] ∷ l) ≡ 32 ∷ joined l
    after_space l p ps e = ap (λ (k : List (List ℕ)). joined ([] ∷ k)) e ∙ ap (λ (k : List (List ℕ)). 32 ∷ joined k) (sym e)

    by : (same : Bool) → Tells same b 32 → joined (split 32 bs) ≡ bs → joined (cond same ([] ∷ split 32 bs) (in_front b (split 32 bs))) ≡ b ∷ bs
    by true (inl t) e =
        let (p, ps, is) = some_piece 32 bs in
        after_space (split 32 bs) p ps is ∙ ap (λ (k : List ℕ). 32 ∷ k) e ∙ ap (λ (n : ℕ). n ∷ bs) (sym t.1)
    by true (inr t) e = absurd (both_ways true t.0 refl)
    by false t e = joined_in_front b (split 32 bs) ∙ ap (λ (k : List ℕ). b ∷ k) e

-- words in a line have no line feed
pub joined_text : (w : List ℕ) (ws : List (List ℕ)) → list_all is_piece w ≡ true → list_all (λ v. list_all is_piece v) ws ≡ true
    → list_all is_text (w ++ flat_map spaced ws) ≡ true
joined_text w [] h k = ap (λ (l : List ℕ). list_all is_text l) (append-nil w) ∙ all_wider is_piece is_text (λ b t. or_left (is_piece b) (b == 32) t) w h
joined_text w (v ∷ vs) h k =
    let parts = and_parts (list_all is_piece v) (list_all (λ u. list_all is_piece u) vs) k in
    all_append is_text w (32 ∷ (v ++ flat_map spaced vs)) (all_wider is_piece is_text (λ b t. or_left (is_piece b) (b == 32) t) w h)
    (both_true refl (joined_text v vs parts.0 parts.1))
