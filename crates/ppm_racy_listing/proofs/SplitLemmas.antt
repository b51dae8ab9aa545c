-- Pieces that make a text are its pieces.
use Rattle.std.proofs.Common.{◌≡◌, ◌∙◌, ℕ, ◌≤◌, ◌==◌, Bool, true, false, cond, nat_lt, List, [], ◌∷◌, ◌++◌, map, refl, sym, ap, arith}
use Rattle.std.proofs.Common.{append-nil, eq-eqb, eqb-true, ne_eqb, ltb-true}
use Rattle.std.specs.List.{flat_map, AllByRecursion}
use Rattle.ppm_pieces.specs.Pieces.{in_front, split}
use Rattle.ppm_pieces.proofs.NumberLemmas.{both_parts}
use Rattle.ppm_listing.specs.declared.token.Token.{Token}
use Rattle.ppm_listing.specs.Tokens.{token_text, operand_text}
use Rattle.ppm_listing.specs.Correct.{Fits}
use Rattle.ppm_listing.proofs.KeywordLemmas.{is_word}
use Rattle.ppm_listing.proofs.TokenLemmas.{word_of_token}
use Rattle.ppm_racy_listing.specs.Plain.{joined}
use Rattle.ppm_racy_listing.proofs.TextLemmas.{IsSome, some_piece}

-- no byte is this separator
abbrev pub IsFree : ℕ → List ℕ → Type 0
IsFree s bs = AllByRecursion (λ b. (b == s) ≡ false) bs

-- pieces with a separator between two
abbrev pub joined_at : ℕ → List (List ℕ) → List ℕ
joined_at s [] = []
joined_at s (p ∷ []) = p
joined_at s (p ∷ q ∷ ps) = p ++ s ∷ joined_at s (q ∷ ps)

pub joined_lines : (ps : List (List ℕ)) → joined ps ≡ joined_at 10 ps
joined_lines [] = refl
joined_lines (p ∷ []) = refl
joined_lines (p ∷ q ∷ ps) = ap (λ (l : List ℕ). p ++ 10 ∷ l) (joined_lines (q ∷ ps))

joined-in_front : (s b : ℕ) (ps : List (List ℕ)) → joined_at s (in_front b ps) ≡ b ∷ joined_at s ps
joined-in_front s b [] = refl
joined-in_front s b (p ∷ []) = refl
joined-in_front s b (p ∷ q ∷ ps) = refl

joined-empty : (s : ℕ) (ps : List (List ℕ)) → IsSome ps → joined_at s ([] ∷ ps) ≡ s ∷ joined_at s ps
joined-empty s [] h = absurd h
joined-empty s (p ∷ ps) h = refl

-- the pieces of a text make it
pub joined-split : (s : ℕ) (bs : List ℕ) → joined_at s (split s bs) ≡ bs
joined-split s [] = refl
joined-split s (b ∷ bs) = go (b == s) refl (joined-split s bs)
  where
    go : (same : Bool) → (b == s) ≡ same → joined_at s (split s bs) ≡ bs → joined_at s (cond same ([] ∷ split s bs) (in_front b (split s bs))) ≡ b ∷ bs
    go true e h = joined-empty s (split s bs) (some_piece s bs) ∙ (λ i. sym (eqb-true b s e) i ∷ h i)
    go false e h = joined-in_front s b (split s bs) ∙ ap (λ l. b ∷ l) h

-- each is free of the separator
pub free_pieces : (s : ℕ) (bs : List ℕ) → AllByRecursion (IsFree s) (split s bs)
free_pieces s [] = (tt, tt)
free_pieces s (b ∷ bs) = go (b == s) refl (split s bs) (free_pieces s bs)
  where
    go : (same : Bool) → (b == s) ≡ same → (ps : List (List ℕ)) → AllByRecursion (IsFree s) ps
        → AllByRecursion (IsFree s) (cond same ([] ∷ ps) (in_front b ps))
    go true e ps f = (tt, f)
    go false e [] f = ((e, tt), tt)
    go false e (p ∷ ps) f = ((e, f.0), f.1)

-- and of another one, where the text is
pub free_words : (s t : ℕ) (bs : List ℕ) → IsFree s bs → AllByRecursion (IsFree s) (split t bs)
free_words s t [] h = (tt, tt)
free_words s t (b ∷ bs) h = go (b == t) (split t bs) (free_words s t bs h.1)
  where
    go : (same : Bool) → (ps : List (List ℕ)) → AllByRecursion (IsFree s) ps → AllByRecursion (IsFree s) (cond same ([] ∷ ps) (in_front b ps))
    go true ps f = (tt, f)
    go false [] f = ((h.0, tt), tt)
    go false (p ∷ ps) f = ((h.0, f.0), f.1)

split_free : (s : ℕ) (w rest : List ℕ) → IsFree s w → split s (w ++ s ∷ rest) ≡ w ∷ split s rest
split_free s [] rest h = λ i. cond (same i) ([] ∷ split s rest) (in_front s (split s rest))
  where
    same : (s == s) ≡ true
    same = eq-eqb s s refl
split_free s (b ∷ w) rest h =
    (λ i. cond (h.0 i) ([] ∷ split s (w ++ s ∷ rest)) (in_front b (split s (w ++ s ∷ rest)))) ∙ ap (in_front b) (split_free s w rest h.1)

split_alone : (s : ℕ) (w : List ℕ) → IsFree s w → split s w ≡ w ∷ []
split_alone s [] h = refl
split_alone s (b ∷ w) h = (λ i. cond (h.0 i) ([] ∷ split s w) (in_front b (split s w))) ∙ ap (in_front b) (split_alone s w h.1)

-- pieces that are free of the separator are those of their text
pub split-joined : (s : ℕ) (ps : List (List ℕ)) → IsSome ps → AllByRecursion (IsFree s) ps → split s (joined_at s ps) ≡ ps
split-joined s [] some f = absurd some
split-joined s (p ∷ []) some f = split_alone s p f.0
split-joined s (p ∷ q ∷ ps) some f = split_free s p (joined_at s (q ∷ ps)) f.0 ∙ ap (λ l. p ∷ l) (split-joined s (q ∷ ps) tt f.1)

pub free_append : (s : ℕ) (a b : List ℕ) → IsFree s a → IsFree s b → IsFree s (a ++ b)
free_append s [] b f g = g
free_append s (x ∷ a) b f g = (f.0, free_append s a b f.1 g)

pub free_of_word : (s : ℕ) (w : List ℕ) → s ≤ 32 → is_word w ≡ true → IsFree s w
free_of_word s [] low h = tt
free_of_word s (b ∷ w) low h =
    let tests = both_parts (nat_lt 32 b) (is_word w) h in
    (ne_eqb b s (λ e. omega (arith, ltb-true 32 b tests.0, e, low)), free_of_word s w low tests.1)

-- the words of a line
pub split_words : (w : List ℕ) (ts : List Token) → is_word w ≡ true → AllByRecursion Fits ts → split 32 (w ++ flat_map operand_text ts) ≡ w ∷ map token_text ts
split_words w [] h f = ap (split 32) (append-nil w) ∙ split_alone 32 w (free_of_word 32 w (omega arith) h)
split_words w (t ∷ ts) h f =
    split_free 32 w (token_text t ++ flat_map operand_text ts) (free_of_word 32 w (omega arith) h)
    ∙ ap (λ l. w ∷ l) (split_words (token_text t) ts (word_of_token t f.0) f.1)
