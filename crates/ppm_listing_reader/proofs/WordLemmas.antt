-- Tokens and their words: what is written of a token is read as it, and what is read as a token is what is written of it.
use Rattle.std.proofs.Common.{◌≡◌, ◌∙◌, ℕ, suc, ◌^◌, ◌<◌, ◌≤◌, ◌==◌, Bool, true, false, not, ◌&&◌, cond, List, [], ◌∷◌, length, get_or, decimal, bytes_eq}
use Rattle.std.proofs.Common.{Option, Some, None, refl, sym, ap, subst, arith}
use Rattle.std.proofs.Common.{eqb-true, ne_eqb}
use Rattle.std.specs.Prelude.{pos, negsuc}
use Rattle.std.proofs.lemmas.Bool.{both_ways}
use Rattle.std.proofs.lemmas.Fmt.{first_decimal}
use Rattle.std.proofs.lemmas.Slice.Eq.{bytes_eq-Decides}
use Rattle.ppm_listing.specs.declared.keyword.Keyword.{Keyword}
use Rattle.ppm_listing.specs.declared.keyword.Keyword.TheVariants as keyword
use Rattle.ppm_listing.specs.declared.token.Token.{Token as Written}
use Rattle.ppm_listing.specs.declared.token.Token.TheVariants as written
use Rattle.ppm_listing.specs.Tokens.{keyword_text, token_text}
use Rattle.ppm_listing.specs.Correct.{Fits}
use Rattle.ppm_listing_reader.specs.declared.token.Token.{Token}
use Rattle.ppm_listing_reader.specs.declared.token.Token.TheVariants.{Name, Register, Number, Negative, Absent, Other}
use Rattle.ppm_listing_reader.specs.Tokens.{is_digit, is_numeral, value, value_limit, spelled, keywords, keyword_of, named, minus, token_of}
use Rattle.ppm_pieces.proofs.NumberLemmas.{both_parts, decimal-value, numeral-decimal, value-decimal, first_digit, digit_bounds}

-- the word of a token
abbrev pub word_of : Token → List ℕ
word_of (Name k) = keyword_text k
word_of (Register n) = 114 ∷ decimal n
word_of (Number n) = decimal n
word_of (Negative n) = 45 ∷ decimal n
word_of Absent = 45 ∷ []
word_of Other = []

-- a token that tells its word: its number is not cut off
abbrev pub IsWhole : Token → Type 0
IsWhole (Name k) = Unit {0}
IsWhole (Register n) = n < value_limit
IsWhole (Number n) = n < value_limit
IsWhole (Negative n) = n < value_limit
IsWhole Absent = Unit {0}
IsWhole Other = ⊥

-- a spelling found is that of the keyword
text_of_spelled : (ks : List Keyword) (bytes : List ℕ) (k : Keyword) → spelled ks bytes ≡ Some k → keyword_text k ≡ bytes
text_of_spelled [] bytes k h = cc
text_of_spelled (j ∷ ks) bytes k h = go (bytes_eq (keyword_text j) bytes) refl (text_of_spelled ks bytes k) h
  where
    go : (same : Bool) → bytes_eq (keyword_text j) bytes ≡ same → (spelled ks bytes ≡ Some k → keyword_text k ≡ bytes)
        → cond same (Some j) (spelled ks bytes) ≡ Some k → keyword_text k ≡ bytes
    go true e f h = let is : j ≡ k = cc in ap keyword_text (sym is) ∙ (bytes_eq-Decides (keyword_text j) bytes).0 e
    go false e f h = f h

-- a byte with which no keyword begins
module _ (b : ℕ) (no_a : b ≡ 97 → ⊥) (no_b : b ≡ 98 → ⊥) (no_c : b ≡ 99 → ⊥) (no_d : b ≡ 100 → ⊥) (no_e : b ≡ 101 → ⊥) (no_f : b ≡ 102 → ⊥) (no_g : b ≡ 103 → ⊥) (no_l : b ≡ 108 → ⊥) (no_m : b ≡ 109 → ⊥) (no_n : b ≡ 110 → ⊥) (no_p : b ≡ 112 → ⊥) (no_r : b ≡ 114 → ⊥) (no_s : b ≡ 115 → ⊥) (no_t : b ≡ 116 → ⊥) where
  begins : (k : Keyword) (bs : List ℕ) → keyword_text k ≡ b ∷ bs → ⊥
  begins keyword.Ppm bs e = no_p (sym (ap (λ l. get_or l 0 0) e))
  begins keyword.Root bs e = no_r (sym (ap (λ l. get_or l 0 0) e))
  begins keyword.Proc bs e = no_p (sym (ap (λ l. get_or l 0 0) e))
  begins keyword.Slots bs e = no_s (sym (ap (λ l. get_or l 0 0) e))
  begins keyword.Entry bs e = no_e (sym (ap (λ l. get_or l 0 0) e))
  begins keyword.Capsule bs e = no_c (sym (ap (λ l. get_or l 0 0) e))
  begins keyword.Const bs e = no_c (sym (ap (λ l. get_or l 0 0) e))
  begins keyword.Move bs e = no_m (sym (ap (λ l. get_or l 0 0) e))
  begins keyword.Add bs e = no_a (sym (ap (λ l. get_or l 0 0) e))
  begins keyword.Sub bs e = no_s (sym (ap (λ l. get_or l 0 0) e))
  begins keyword.Mul bs e = no_m (sym (ap (λ l. get_or l 0 0) e))
  begins keyword.Div bs e = no_d (sym (ap (λ l. get_or l 0 0) e))
  begins keyword.Rem bs e = no_r (sym (ap (λ l. get_or l 0 0) e))
  begins keyword.Equal bs e = no_e (sym (ap (λ l. get_or l 0 0) e))
  begins keyword.NotEqual bs e = no_n (sym (ap (λ l. get_or l 0 0) e))
  begins keyword.Less bs e = no_l (sym (ap (λ l. get_or l 0 0) e))
  begins keyword.AtMost bs e = no_l (sym (ap (λ l. get_or l 0 0) e))
  begins keyword.Len bs e = no_l (sym (ap (λ l. get_or l 0 0) e))
  begins keyword.CutLeft bs e = no_c (sym (ap (λ l. get_or l 0 0) e))
  begins keyword.CutRight bs e = no_c (sym (ap (λ l. get_or l 0 0) e))
  begins keyword.LoadSlot bs e = no_l (sym (ap (λ l. get_or l 0 0) e))
  begins keyword.StoreCur bs e = no_s (sym (ap (λ l. get_or l 0 0) e))
  begins keyword.Give bs e = no_g (sym (ap (λ l. get_or l 0 0) e))
  begins keyword.Get bs e = no_g (sym (ap (λ l. get_or l 0 0) e))
  begins keyword.Put bs e = no_p (sym (ap (λ l. get_or l 0 0) e))
  begins keyword.BranchZero bs e = no_b (sym (ap (λ l. get_or l 0 0) e))
  begins keyword.BranchNonZero bs e = no_b (sym (ap (λ l. get_or l 0 0) e))
  begins keyword.Room bs e = no_r (sym (ap (λ l. get_or l 0 0) e))
  begins keyword.StoreNew bs e = no_s (sym (ap (λ l. get_or l 0 0) e))
  begins keyword.Next bs e = no_n (sym (ap (λ l. get_or l 0 0) e))
  begins keyword.End bs e = no_e (sym (ap (λ l. get_or l 0 0) e))
  begins keyword.Trap bs e = no_t (sym (ap (λ l. get_or l 0 0) e))
  begins keyword.Call bs e = no_c (sym (ap (λ l. get_or l 0 0) e))
  begins keyword.CallTo bs e = no_c (sym (ap (λ l. get_or l 0 0) e))
  begins keyword.Fork bs e = no_f (sym (ap (λ l. get_or l 0 0) e))
  begins keyword.ForkTo bs e = no_f (sym (ap (λ l. get_or l 0 0) e))

  begins_none : (bs : List ℕ) (found : Option Keyword) → spelled keywords (b ∷ bs) ≡ found → found ≡ None
  begins_none bs None e = refl
  begins_none bs (Some k) e = absurd (begins k bs (text_of_spelled keywords (b ∷ bs) k e))

  pub none_begins : (bs : List ℕ) → spelled keywords (b ∷ bs) ≡ None
  none_begins bs = begins_none bs (spelled keywords (b ∷ bs)) refl

-- what a list of keywords comes to at bytes that begin so is what all come to
pub by_first : (bytes : List ℕ) (ks : List Keyword) (b : ℕ) → 1 ≤ length bytes → b ≡ get_or bytes 0 0
    → ((rest : List ℕ) → spelled ks (b ∷ rest) ≡ spelled keywords (b ∷ rest)) → spelled ks bytes ≡ keyword_of bytes
unfolding keyword_of
by_first [] ks b l e h = absurd (omega (arith, l))
by_first (x ∷ xs) ks b l e h = subst (λ (b : ℕ). spelled ks (b ∷ xs) ≡ spelled keywords (b ∷ xs)) e (h xs)

word_of-named : (bytes : List ℕ) (found : Option Keyword) → spelled keywords bytes ≡ found → IsWhole (named found) → bytes ≡ word_of (named found)
word_of-named bytes None e h = absurd h
word_of-named bytes (Some k) e h = sym (text_of_spelled keywords bytes k e)

word_of-keyword : (bytes : List ℕ) → IsWhole (named (keyword_of bytes)) → bytes ≡ word_of (named (keyword_of bytes))
unfolding keyword_of
word_of-keyword bytes h = word_of-named bytes (spelled keywords bytes) refl h

word_of-minus : (bs : List ℕ) → IsWhole (minus bs) → 45 ∷ bs ≡ word_of (minus bs)
word_of-minus [] h = refl
word_of-minus (d ∷ ds) h = go (is_numeral (d ∷ ds) && not (d == 48)) refl h
  where
    go : (test : Bool) → (is_numeral (d ∷ ds) && not (d == 48)) ≡ test → IsWhole (cond test (Negative (value (d ∷ ds))) Other)
        → 45 ∷ d ∷ ds ≡ word_of (cond test (Negative (value (d ∷ ds))) Other)
    go true e h = ap (λ l. 45 ∷ l) (sym (decimal-value (d ∷ ds) (both_parts (is_numeral (d ∷ ds)) (not (d == 48)) e).0 h))
    go false e h = absurd h

-- what is read as a whole token is its word
pub word_of-token_of : (bs : List ℕ) → IsWhole (token_of bs) → bs ≡ word_of (token_of bs)
word_of-token_of [] h = absurd h
word_of-token_of (b ∷ bs) h = by_minus (b == 45) refl h
  where
    by_number : (test : Bool) → is_numeral (b ∷ bs) ≡ test → IsWhole (cond test (Number (value (b ∷ bs))) Other)
        → b ∷ bs ≡ word_of (cond test (Number (value (b ∷ bs))) Other)
    by_number true e h = sym (decimal-value (b ∷ bs) e h)
    by_number false e h = absurd h

    by_register : (test : Bool) → (b == 114 && is_numeral bs) ≡ test → IsWhole (cond test (Register (value bs)) (named (keyword_of (b ∷ bs))))
        → b ∷ bs ≡ word_of (cond test (Register (value bs)) (named (keyword_of (b ∷ bs))))
    by_register true e h =
        let k = both_parts (b == 114) (is_numeral bs) e in
        λ i. eqb-true b 114 k.0 i ∷ sym (decimal-value bs k.1 h) i
    by_register false e h = word_of-keyword (b ∷ bs) h

    by_digit : (test : Bool) → is_digit b ≡ test
        → IsWhole (cond test (cond (is_numeral (b ∷ bs)) (Number (value (b ∷ bs))) Other)
        (cond (b == 114 && is_numeral bs) (Register (value bs)) (named (keyword_of (b ∷ bs)))))
        → b ∷ bs ≡ word_of (cond test (cond (is_numeral (b ∷ bs)) (Number (value (b ∷ bs))) Other)
        (cond (b == 114 && is_numeral bs) (Register (value bs)) (named (keyword_of (b ∷ bs)))))
    by_digit true e h = by_number (is_numeral (b ∷ bs)) refl h
    by_digit false e h = by_register (b == 114 && is_numeral bs) refl h

    by_minus : (test : Bool) → (b == 45) ≡ test
        → IsWhole (cond test (minus bs) (cond (is_digit b) (cond (is_numeral (b ∷ bs)) (Number (value (b ∷ bs))) Other)
        (cond (b == 114 && is_numeral bs) (Register (value bs)) (named (keyword_of (b ∷ bs))))))
        → b ∷ bs ≡ word_of (cond test (minus bs) (cond (is_digit b) (cond (is_numeral (b ∷ bs)) (Number (value (b ∷ bs))) Other)
        (cond (b == 114 && is_numeral bs) (Register (value bs)) (named (keyword_of (b ∷ bs))))))
    by_minus true e h = (λ i. eqb-true b 45 e i ∷ bs) ∙ word_of-minus bs h
    by_minus false e h = by_digit (is_digit b) refl h

-- the token of what is written
abbrev pub read_as : Written → Token
read_as (written.Name k) = Name k
read_as (written.Register r) = Register r.index
read_as (written.Number (pos n)) = Number n
read_as (written.Number (negsuc n)) = Negative (suc n)
read_as written.Absent = Absent

token_of-keyword : (k : Keyword) → token_of (keyword_text k) ≡ Name k
unfolding keyword_of
token_of-keyword keyword.Ppm = refl
token_of-keyword keyword.Root = refl
token_of-keyword keyword.Proc = refl
token_of-keyword keyword.Slots = refl
token_of-keyword keyword.Entry = refl
token_of-keyword keyword.Capsule = refl
token_of-keyword keyword.Const = refl
token_of-keyword keyword.Move = refl
token_of-keyword keyword.Add = refl
token_of-keyword keyword.Sub = refl
token_of-keyword keyword.Mul = refl
token_of-keyword keyword.Div = refl
token_of-keyword keyword.Rem = refl
token_of-keyword keyword.Equal = refl
token_of-keyword keyword.NotEqual = refl
token_of-keyword keyword.Less = refl
token_of-keyword keyword.AtMost = refl
token_of-keyword keyword.Len = refl
token_of-keyword keyword.CutLeft = refl
token_of-keyword keyword.CutRight = refl
token_of-keyword keyword.LoadSlot = refl
token_of-keyword keyword.StoreCur = refl
token_of-keyword keyword.Give = refl
token_of-keyword keyword.Get = refl
token_of-keyword keyword.Put = refl
token_of-keyword keyword.BranchZero = refl
token_of-keyword keyword.BranchNonZero = refl
token_of-keyword keyword.Room = refl
token_of-keyword keyword.StoreNew = refl
token_of-keyword keyword.Next = refl
token_of-keyword keyword.End = refl
token_of-keyword keyword.Trap = refl
token_of-keyword keyword.Call = refl
token_of-keyword keyword.CallTo = refl
token_of-keyword keyword.Fork = refl
token_of-keyword keyword.ForkTo = refl

token_of-numeral : (ds : List ℕ) → is_numeral ds ≡ true → token_of ds ≡ Number (value ds)
token_of-numeral [] h = absurd (both_ways false refl h)
token_of-numeral (d ∷ ds) h =
    let digit = first_digit d ds h in
    let other = ne_eqb d 45 (λ e. omega (arith, (digit_bounds d digit).0, e)) in
    λ i. cond (other i) (minus ds) (cond (digit i) (cond (h i) (Number (value (d ∷ ds))) Other)
    (cond (d == 114 && is_numeral ds) (Register (value ds)) (named (keyword_of (d ∷ ds)))))

token_of-register : (ds : List ℕ) → is_numeral ds ≡ true → token_of (114 ∷ ds) ≡ Register (value ds)
token_of-register ds h = λ i. cond (h i) (Register (value ds)) (named (keyword_of (114 ∷ ds)))

minus-numeral : (ds : List ℕ) → is_numeral ds ≡ true → 48 < get_or ds 0 0 → minus ds ≡ Negative (value ds)
minus-numeral [] h lead = absurd (both_ways false refl h)
minus-numeral (d ∷ ds) h lead =
    let other = ne_eqb d 48 (λ e. omega (arith, lead, e)) in
    λ i. cond (h i && not (other i)) (Negative (value (d ∷ ds))) Other

-- what is written of a token is read as it
pub token_of-token_text : (t : Written) → Fits t → token_of (token_text t) ≡ read_as t
token_of-token_text (written.Name k) h = token_of-keyword k
token_of-token_text (written.Register r) h =
    let small : r.index < 2 ^ 64 = omega (arith, r.in_range) in
    token_of-register (decimal r.index) (numeral-decimal r.index small) ∙ ap Register (value-decimal r.index small)
token_of-token_text (written.Number (pos n)) h =
    let small : n < 2 ^ 64 = omega (arith, h) in
    token_of-numeral (decimal n) (numeral-decimal n small) ∙ ap Number (value-decimal n small)
token_of-token_text (written.Number (negsuc n)) h =
    let small : suc n < 2 ^ 64 = omega (arith, h) in
    minus-numeral (decimal (suc n)) (numeral-decimal (suc n) small) (first_decimal (suc n) (omega arith) small) ∙ ap Negative (value-decimal (suc n) small)
token_of-token_text written.Absent h = refl
