-- Texts and their lines: what is read of a text's lines tells the text.
use Rattle.std.proofs.Common.{◌≡◌, ◌∙◌, ℕ, ◌<◌, ◌==◌, Bool, true, false, cond, List, [], ◌∷◌, ◌++◌, map, length, Option, Some, None, refl, sym}
use Rattle.std.proofs.Common.{ap, subst, arith}
use Rattle.std.proofs.Common.{append_assoc, append-nil, eqb-true, drop}
use Rattle.std.specs.List.{flat_map, AllByRecursion}
use Rattle.ppm_listing.specs.declared.keyword.Keyword.{Keyword}
use Rattle.ppm_listing.specs.declared.token.Token.{Token as Written}
use Rattle.ppm_listing.specs.Tokens.{line, keyword_text, operand_text, line_text}
use Rattle.ppm_listing.specs.Listing.{text_of}
use Rattle.ppm_listing.specs.Correct.{Fits, LineFits}
use Rattle.ppm_listing_reader.specs.declared.token.Token.{Token}
use Rattle.ppm_listing_reader.specs.declared.token.Token.TheVariants.{Name}
use Rattle.ppm_listing_reader.specs.declared.part.Part.{Part}
use Rattle.ppm_listing_reader.specs.Tokens.{in_front, split, token_of, tokens_of}
use Rattle.ppm_listing_reader.specs.Forms.{unended, line_of, lines_in}
use Rattle.ppm_listing_reader.proofs.WordLemmas.{word_of, IsWhole, word_of-token_of}
use Rattle.ppm_listing_reader.proofs.FormLemmas.{AreTokens, None_left, One_more, part_line}

-- pieces with a separator between two
abbrev pub joined : ℕ → List (List ℕ) → List ℕ
joined s [] = []
joined s (p ∷ []) = p
joined s (p ∷ q ∷ ps) = p ++ s ∷ joined s (q ∷ ps)

-- there is a piece always
pub split_some : (s : ℕ) (bs : List ℕ) → 0 < length (split s bs)
split_some s [] = omega arith
split_some s (b ∷ bs) = go (b == s) (split s bs) (split_some s bs)
  where
    go : (same : Bool) (ps : List (List ℕ)) → 0 < length ps → 0 < length (cond same ([] ∷ ps) (in_front b ps))
    go true ps h = omega arith
    go false [] h = omega arith
    go false (p ∷ ps) h = omega arith

joined-in_front : (s b : ℕ) (ps : List (List ℕ)) → joined s (in_front b ps) ≡ b ∷ joined s ps
joined-in_front s b [] = refl
joined-in_front s b (p ∷ []) = refl
joined-in_front s b (p ∷ q ∷ ps) = refl

joined-empty : (s : ℕ) (ps : List (List ℕ)) → 0 < length ps → joined s ([] ∷ ps) ≡ s ∷ joined s ps
joined-empty s [] h = absurd (omega (arith, h))
joined-empty s (p ∷ ps) h = refl

-- the pieces of a text make it
pub joined-split : (s : ℕ) (bs : List ℕ) → joined s (split s bs) ≡ bs
joined-split s [] = refl
joined-split s (b ∷ bs) = go (b == s) refl (joined-split s bs)
  where
    go : (same : Bool) → (b == s) ≡ same → joined s (split s bs) ≡ bs → joined s (cond same ([] ∷ split s bs) (in_front b (split s bs))) ≡ b ∷ bs
    go true e h = joined-empty s (split s bs) (split_some s bs) ∙ (λ i. sym (eqb-true b s e) i ∷ h i)
    go false e h = joined-in_front s b (split s bs) ∙ ap (λ l. b ∷ l) h

-- a space and a token's word
abbrev pub behind_space : Token → List ℕ
behind_space t = 32 ∷ word_of t

-- the words of whole tokens make the line
pub joined-words : (ws : List (List ℕ)) (t : Token) (ts : List Token) → map token_of ws ≡ t ∷ ts → IsWhole t → AllByRecursion IsWhole ts
    → joined 32 ws ≡ word_of t ++ flat_map behind_space ts
joined-words [] t ts e h g = absurd (omega (arith, ap length e))
joined-words (w ∷ []) t ts e h g = alone ts (ap (drop 1) e) (first e) h
  where
    first_of : List Token → Token → Token
    first_of [] d = d
    first_of (x ∷ xs) d = x

    first : token_of w ∷ [] ≡ t ∷ ts → token_of w ≡ t
    first e = ap (λ l. first_of l t) e

    alone : (ts : List Token) → [] ≡ ts → token_of w ≡ t → IsWhole t → w ≡ word_of t ++ flat_map behind_space ts
    alone [] e is h = word_of-token_of w (subst IsWhole (sym is) h) ∙ ap word_of is ∙ sym (append-nil (word_of t))
    alone (u ∷ us) e is h = absurd (omega (arith, ap length e))
joined-words (w ∷ v ∷ ws) t [] e h g = absurd (omega (arith, ap length e))
joined-words (w ∷ v ∷ ws) t (u ∷ us) e h g =
    let is = first e in
    (λ i. (word_of-token_of w (subst IsWhole (sym is) h) ∙ ap word_of is) i ++ 32 ∷ joined-words (v ∷ ws) u us (ap (drop 1) e) g.0 g.1 i)
  where
    first_of : List Token → Token → Token
    first_of [] d = d
    first_of (x ∷ xs) d = x

    first : token_of w ∷ map token_of (v ∷ ws) ≡ t ∷ u ∷ us → token_of w ≡ t
    first e = ap (λ l. first_of l t) e

-- what is written of tokens is their words, and they are whole
pub words_written : (ts : List Token) (ws : List Written) → AreTokens ts ws
    → AllByRecursion IsWhole ts × (flat_map behind_space ts ≡ flat_map operand_text ws) × AllByRecursion Fits ws
words_written [] [] None_left = (tt, refl, tt)
words_written [] (w ∷ ws) are = elim are [ ]
words_written (t ∷ ts) [] are = elim are [ ]
words_written (t ∷ ts) (w ∷ ws) (One_more _ _ _ _ is more) =
    let (whole, words, fits) = words_written ts ws more in
    ((is.whole, whole), (λ i. 32 ∷ is.word i ++ words i), (is.fits, fits))

-- a line of these tokens has the text of what is written
pub line_written : (bytes : List ℕ) (k : Keyword) (ts : List Token) (ws : List Written) → tokens_of bytes ≡ Name k ∷ ts → AreTokens ts ws
    → (bytes ++ 10 ∷ [] ≡ line_text (line k ws)) × LineFits (line k ws)
line_written bytes k ts ws e are =
    let (whole, words, fits) = words_written ts ws are in
    let text = sym (joined-split 32 bytes) ∙ joined-words (split 32 bytes) (Name k) ts e tt whole in
    ((λ i. (text ∙ ap (λ l. keyword_text k ++ l) words) i ++ 10 ∷ []), fits)

-- a line says a part, and has the text of the part's line
pub record HasText (bytes : List ℕ) (x : Part) : Type 0 where
  pub text : bytes ++ 10 ∷ [] ≡ line_text (part_line x)
  pub fits : LineFits (part_line x)

-- lines that all stand make the text
pub text_written : (IsGood : Part → Type 0) (pieces : List (List ℕ)) (xs : List Part) → 0 < length pieces → lines_in pieces ≡ map Some xs
    → ((bytes : List ℕ) (x : Part) → line_of bytes ≡ Some x → IsGood x → HasText bytes x) → AllByRecursion IsGood xs
    → (joined 10 pieces ≡ text_of (map part_line xs)) × AllByRecursion LineFits (map part_line xs)
text_written IsGood [] xs h e f g = absurd (omega (arith, h))
text_written IsGood (p ∷ []) xs h e f g = last p xs e
  where
    last : (p : List ℕ) (xs : List Part) → unended p ≡ map Some xs → (p ≡ text_of (map part_line xs)) × AllByRecursion LineFits (map part_line xs)
    last [] [] e = (refl, tt)
    last [] (x ∷ xs) e = absurd (omega (arith, ap length e))
    last (b ∷ bs) [] e = absurd (omega (arith, ap length e))
    last (b ∷ bs) (x ∷ xs) e = absurd (none_is_some (ap (λ l. first_of l) e))
      where
        first_of : List (Option Part) → Option Part
        first_of [] = None
        first_of (l ∷ ls) = l

        none_is_some : None ≡ Some x → ⊥
        none_is_some h = cc
text_written IsGood (p ∷ q ∷ pieces) [] h e f g = absurd (omega (arith, ap length e))
text_written IsGood (p ∷ q ∷ pieces) (x ∷ xs) h e f g =
    let told = f p x (ap first_of e) g.0 in
    let (text, fits) = text_written IsGood (q ∷ pieces) xs (omega arith) (ap (drop 1) e) f g.1 in (
      ap (λ l. p ++ 10 ∷ l) text ∙ sym (append_assoc p (10 ∷ []) (text_of (map part_line xs)))
          ∙ ap (λ l. l ++ text_of (map part_line xs)) told.text,
      (told.fits, fits),
    )
  where
    first_of : List (Option Part) → Option Part
    first_of [] = None
    first_of (l ∷ ls) = l
