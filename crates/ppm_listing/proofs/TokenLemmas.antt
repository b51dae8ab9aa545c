-- Tokens are told by their bytes.
use Rattle.std.proofs.Common.{◌≡◌, ◌∙◌, ℕ, suc, ◌<◌, ◌^◌, Bool, true, false, cond, List, [], ◌∷◌, length, drop, refl, sym, ap, subst, arith}
use Rattle.std.specs.Prelude.{ℤ, pos, negsuc, decimal}
use Rattle.std.specs.Fmt.{signed_decimal}
use Rattle.std.specs.Str.Parse.{AllDigits}
use Rattle.std.specs.Cmp.Derive.{both_true}
use Rattle.std.proofs.Math.Bridge.{le_prop}
use Rattle.std.proofs.lemmas.Bool.{lt-ltb}
use Rattle.std.proofs.lemmas.Fmt.{decimal_is_IsNumeral, decimal_injective}
use Rattle.std.proofs.lemmas.Str.Parse.{digit_from_value}
use Rattle.ppm_code.specs.declared.register.Register.{Register as TheRegister}
use Rattle.ppm_listing.specs.declared.token.Token.{Token}
use Rattle.ppm_listing.specs.declared.token.Token.TheVariants.{Name, Register, Number, Absent}
use Rattle.ppm_listing.specs.Tokens.{token_text}
use Rattle.ppm_listing.specs.Correct.{Fits}
use Rattle.ppm_listing.proofs.KeywordLemmas.{is_word, is_low, spelling, keyword_text_injective}

-- a test is not both
pub not_both : true ≡ false → ⊥
not_both h = subst (λ (b : Bool). cond b (Unit {0}) ⊥) h tt

-- digits are a word, and low
word_of_digits : (ds : List ℕ) → AllDigits 10 ds → is_word ds ≡ true
word_of_digits [] h = refl
word_of_digits (d ∷ ds) h = both_true (lt-ltb 32 d (omega (arith, digit_from_value d h.0))) (word_of_digits ds h.1)

low_digits : (ds : List ℕ) → 0 < length ds → AllDigits 10 ds → is_low ds ≡ true
low_digits [] some h = absurd (omega (arith, some))
low_digits (d ∷ ds) some h = lt-ltb d 58 (omega (arith, digit_from_value d h.0))

word_of_decimal : (n : ℕ) → n < 2 ^ 64 → is_word (decimal n) ≡ true
word_of_decimal n h = word_of_digits (decimal n) (decimal_is_IsNumeral n h).0.1

low_decimal : (n : ℕ) → n < 2 ^ 64 → is_low (decimal n) ≡ true
low_decimal n h = low_digits (decimal n) (decimal_is_IsNumeral n h).0.0 (decimal_is_IsNumeral n h).0.1

-- no digits begin with a minus, and there is one at least
no_minus : (n : ℕ) (bs : List ℕ) → n < 2 ^ 64 → decimal n ≡ 45 ∷ bs → ⊥
no_minus n bs h e = omega (arith, digit_from_value 45 (subst (AllDigits 10) e (decimal_is_IsNumeral n h).0.1).0)

not_empty : (n : ℕ) → n < 2 ^ 64 → decimal n ≡ [] → ⊥
not_empty n h e = omega (arith, (decimal_is_IsNumeral n h).0.0, ap length e)

-- a register's number is small
register_fits : (r : TheRegister) → r.index < 2 ^ 64
register_fits r = omega (arith, r.in_range)

-- each token is a word
pub word_of_token : (t : Token) → Fits t → is_word (token_text t) ≡ true
word_of_token (Name k) h = (spelling k).word
word_of_token (Register r) h = word_of_decimal r.index (register_fits r)
word_of_token (Number (pos n)) h = word_of_decimal n (omega (arith, h))
word_of_token (Number (negsuc n)) h = word_of_decimal (suc n) (omega (arith, h))
word_of_token Absent h = refl

-- numbers and `-` are low
low_number : (z : ℤ) → Fits (Number z) → is_low (signed_decimal z) ≡ true
low_number (pos n) h = low_decimal n (omega (arith, h))
low_number (negsuc n) h = refl

-- they are told from each other
number_is_not_absent : (z : ℤ) → Fits (Number z) → signed_decimal z ≡ 45 ∷ [] → ⊥
number_is_not_absent (pos n) h e = no_minus n [] (omega (arith, h)) e
number_is_not_absent (negsuc n) h e = not_empty (suc n) (omega (arith, h)) (ap (drop 1) e)

signed_injective : (y z : ℤ) → Fits (Number y) → Fits (Number z) → signed_decimal y ≡ signed_decimal z → y ≡ z
signed_injective (pos m) (pos n) g h e = ap pos (decimal_injective m n (omega (arith, g)) (omega (arith, h)) e)
signed_injective (pos m) (negsuc n) g h e = absurd (no_minus m _ (omega (arith, g)) e)
signed_injective (negsuc m) (pos n) g h e = absurd (no_minus n _ (omega (arith, h)) (sym e))
signed_injective (negsuc m) (negsuc n) g h e =
    ap negsuc (omega (arith, decimal_injective (suc m) (suc n) (omega (arith, g)) (omega (arith, h)) (ap (drop 1) e)))

-- a register is told by its number
abbrev register : (n : ℕ) → n < 64 → TheRegister
register n h = record { index = n; in_range = h }

register_injective : (r s : TheRegister) → r.index ≡ s.index → r ≡ s
register_injective r s e =
    subst (λ (n : ℕ). (h : n < 64) → register r.index r.in_range ≡ register n h) e
    (λ h. ap (register r.index) (le_prop r.in_range h)) s.in_range

-- two texts of which one is low, or has a low second byte, are not one
low_apart : (a b : List ℕ) → is_low a ≡ true → is_low b ≡ false → a ≡ b → ⊥
low_apart a b p q e = not_both (sym p ∙ ap is_low e ∙ q)

second_apart : (a b : List ℕ) → is_low (drop 1 a) ≡ true → is_low (drop 1 b) ≡ false → a ≡ b → ⊥
second_apart a b p q e = not_both (sym p ∙ ap (λ l. is_low (drop 1 l)) e ∙ q)

-- two tokens of one text are one
pub token_text_injective : (t u : Token) → Fits t → Fits u → token_text t ≡ token_text u → t ≡ u
token_text_injective (Name j) (Name k) g h e = ap Name (keyword_text_injective j k e)
token_text_injective (Name j) (Register s) g h e =
    absurd (second_apart _ _ (low_decimal s.index (register_fits s)) (spelling j).second (sym e))
token_text_injective (Name j) (Number z) g h e = absurd (low_apart _ _ (low_number z h) (spelling j).first (sym e))
token_text_injective (Name j) Absent g h e = absurd (low_apart (45 ∷ []) _ refl (spelling j).first (sym e))
token_text_injective (Register r) (Name k) g h e = absurd (second_apart _ _ (low_decimal r.index (register_fits r)) (spelling k).second e)
token_text_injective (Register r) (Register s) g h e =
    ap Register (register_injective r s (decimal_injective _ _ (register_fits r) (register_fits s) (ap (drop 1) e)))
token_text_injective (Register r) (Number z) g h e = absurd (low_apart _ (114 ∷ decimal r.index) (low_number z h) refl (sym e))
token_text_injective (Register r) Absent g h e = absurd (low_apart (45 ∷ []) (114 ∷ decimal r.index) refl refl (sym e))
token_text_injective (Number y) (Name k) g h e = absurd (low_apart _ _ (low_number y g) (spelling k).first e)
token_text_injective (Number y) (Register s) g h e = absurd (low_apart _ (114 ∷ decimal s.index) (low_number y g) refl e)
token_text_injective (Number y) (Number z) g h e = ap Number (signed_injective y z g h e)
token_text_injective (Number y) Absent g h e = absurd (number_is_not_absent y g e)
token_text_injective Absent (Name k) g h e = absurd (low_apart (45 ∷ []) _ refl (spelling k).first e)
token_text_injective Absent (Register s) g h e = absurd (low_apart (45 ∷ []) (114 ∷ decimal s.index) refl refl e)
token_text_injective Absent (Number z) g h e = absurd (number_is_not_absent z h (sym e))
token_text_injective Absent Absent g h e = refl
