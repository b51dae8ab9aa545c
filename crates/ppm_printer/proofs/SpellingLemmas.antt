-- The text of a token spells it, and no longer token begins where a blank stands after it.
use Rattle.std.proofs.Common.{◌≡◌, ℕ, zero, suc, ◌<◌, ◌≤◌, ◌^◌, Bool, true, false, cond, nat_lt, ◌&&◌, ◌||◌, List, [], ◌∷◌, ◌++◌, length, take}
use Rattle.std.proofs.Common.{Some, arith, rules, refl, subst}
use Rattle.std.specs.Prelude.{decimal}
use Rattle.std.specs.List.{AllByRecursion}
use Rattle.std.specs.Bool.{Decides}
use Rattle.std.specs.Str.{bytes_eq}
use Rattle.std.specs.Str.Parse.{AllDigits}
use Rattle.std.proofs.Math.Seq.{take-append_seam}
use Rattle.std.proofs.lemmas.Bool.{ltb-true}
use Rattle.std.proofs.lemmas.Bool.Decides.{nat_tests}
use Rattle.std.proofs.lemmas.Fmt.{decimal_is_IsNumeral, digits_value-decimal}
use Rattle.std.proofs.lemmas.Str.Parse.{IsNumeralModel, numerals_by_fold, digit_from_value}
use Rattle.std.proofs.lemmas.List.{length-append}
use Rattle.std.proofs.lemmas.List.Elements.{All-from_recursion, recursion_from_All}
use Rattle.std.proofs.lemmas.List.Sums.{AllPass-from_list_all}
use Rattle.std.specs.List.{list_all}
use Rattle.std.specs.Char.{digit_value}
use Rattle.std.proofs.lemmas.Slice.Eq.{bytes_eq-Decides}
use Rattle.ppm_words.specs.Limits.{value_bound}
use Rattle.ppm_words.specs.Names.{is_letter, is_digit, is_name_byte, IsName}
use Rattle.ppm_text.specs.declared.byte_class.ByteClass.TheVariants.{Letter, Digit}
use Rattle.ppm_text.specs.declared.token.Keyword.{Keyword}
use Rattle.ppm_text.specs.declared.token.Keyword.TheVariants as k
use Rattle.ppm_text.specs.declared.token.Sign.{Sign}
use Rattle.ppm_text.specs.declared.token.Sign.TheVariants as s
use Rattle.ppm_text.specs.declared.token.Kind.{Kind}
use Rattle.ppm_text.specs.declared.token.Kind.TheVariants as kind
use Rattle.ppm_text.specs.Bytes.{class_of, value_from}
use Rattle.ppm_text.specs.Spelling.{spelled, signs, keyword_of, sign_of, IsIdentifier, IsDigits, Spells, a_keyword, a_name, a_number, a_sign, Longest}
use Rattle.ppm_text.specs.Tokens.{HasForm}
use Rattle.ppm_text.proofs.BytesLemmas.{letter_byte, digit_byte}
use Rattle.ppm_printer.specs.Spelled.{keyword_text, sign_text, token_text}

-- no byte is a blank
abbrev pub Solid : List ℕ → Type 0
Solid [] = Unit {0}
Solid (b ∷ bs) = (32 < b) × Solid bs

-- a test that no byte is a blank
abbrev is_solid : List ℕ → Bool
is_solid [] = true
is_solid (b ∷ bs) = nat_lt 32 b && is_solid bs

-- both parts of a test that holds
both_hold : (a b : Bool) → (a && b) ≡ true → (a ≡ true) × (b ≡ true)
both_hold true true h = (refl, refl)
both_hold true false h = absurd (cc)
both_hold false b h = absurd (cc)

-- the test is right
solid_passes : (bytes : List ℕ) → is_solid bytes ≡ true → Solid bytes
solid_passes [] h = tt
solid_passes (b ∷ bs) h = let p = both_hold (nat_lt 32 b) (is_solid bs) h in (ltb-true 32 b p.0, solid_passes bs p.1)

-- each spelling in a table passes
abbrev all_solid : {K : Type 0} → List (List ℕ × K) → Bool
all_solid [] = true
all_solid (row ∷ rows) = is_solid row.0 && all_solid rows

-- what is found in a table passes
found_solid : {K : Type 0} (rows : List (List ℕ × K)) → all_solid rows ≡ true → (bytes : List ℕ) (found : K) → spelled rows bytes ≡ Some found →
    is_solid bytes ≡ true
found_solid [] each bytes found is = absurd (cc)
found_solid {K} (row ∷ rows) each bytes found is =
    let passes = both_hold (is_solid row.0) (all_solid rows) each in
    go (bytes_eq row.0 bytes) (bytes_eq-Decides row.0 bytes) is passes.0 (found_solid rows passes.1 bytes found)
  where
    go : (same : Bool) → Decides same (row.0 ≡ bytes) → cond same (Some row.1) (spelled rows bytes) ≡ Some found →
        is_solid row.0 ≡ true → (spelled rows bytes ≡ Some found → is_solid bytes ≡ true) → is_solid bytes ≡ true
    go true d e first next = subst (λ (w : List ℕ). is_solid w ≡ true) (d.0 refl) first
    go false d e first next = next e

-- a sign has no blank
sign_solid : (bytes : List ℕ) (found : Sign) → sign_of bytes ≡ Some found → Solid bytes
unfolding sign_of
sign_solid bytes found is = solid_passes bytes (found_solid signs refl bytes found is)

-- bytes of names and digits are no blanks
letter_solid : (b : ℕ) → is_letter b ≡ true → 32 < b
letter_solid b h = grind (arith, nat_tests)

digit_solid : (b : ℕ) → is_digit b ≡ true → 32 < b
digit_solid b h = grind (arith, nat_tests)

name_solid : (b : ℕ) → is_name_byte b ≡ true → 32 < b
name_solid b h = go (is_letter b) (is_digit b) refl refl h
  where
    go : (x y : Bool) → is_letter b ≡ x → is_digit b ≡ y → (x || y) ≡ true → 32 < b
    go true y p q e = letter_solid b p
    go false true p q e = digit_solid b q
    go false false p q e = absurd (cc)

all_solid_names : (bs : List ℕ) → AllByRecursion (λ c. is_name_byte c ≡ true) bs → Solid bs
all_solid_names [] h = tt
all_solid_names (b ∷ bs) h = (name_solid b h.0, all_solid_names bs h.1)

all_solid_digits : (bs : List ℕ) → AllByRecursion (λ c. is_digit c ≡ true) bs → Solid bs
all_solid_digits [] h = tt
all_solid_digits (b ∷ bs) h = (digit_solid b h.0, all_solid_digits bs h.1)

identifier_solid : (bytes : List ℕ) → IsIdentifier bytes → Solid bytes
identifier_solid [] h = absurd h
identifier_solid (b ∷ bs) h = (letter_solid b (letter_byte b h.0), all_solid_names bs (recursion_from_All (λ c. is_name_byte c ≡ true) bs h.1))

number_solid : (bytes : List ℕ) → IsDigits bytes → Solid bytes
number_solid [] h = absurd h
number_solid (b ∷ bs) h = (digit_solid b (digit_byte b h.0), all_solid_digits bs (recursion_from_All (λ c. is_digit c ≡ true) bs h.1))

-- a token has no blank
spells_solid : {bytes : List ℕ} {token : Kind} → Spells bytes token → Solid bytes
spells_solid {bytes} (a_keyword w is) = identifier_solid bytes w
spells_solid {bytes} (a_name w is) = identifier_solid bytes w
spells_solid {bytes} (a_number d) = number_solid bytes d
spells_solid {bytes} (a_sign {found = found} is) = sign_solid bytes found is

-- no token reaches beyond a blank
up_to_blank : (front : List ℕ) (b : ℕ) (bs : List ℕ) (m : ℕ) → b ≤ 32 → Solid (take m (front ++ b ∷ bs)) → m ≤ length front
up_to_blank [] b bs zero low h = omega arith
up_to_blank [] b bs (suc m) low h = absurd (omega (arith, h.0))
up_to_blank (c ∷ front) b bs zero low h = omega arith
up_to_blank (c ∷ front) b bs (suc m) low h = omega (arith, up_to_blank front b bs m low h.1)

-- what spells a token is the longest one in front of a blank
pub longest_before_blank : (front : List ℕ) (token : Kind) (b : ℕ) (bs : List ℕ) → Spells front token → b ≤ 32 →
    Longest (front ++ b ∷ bs) (length front) token
longest_before_blank front token b bs spells low = record {
  within = omega (arith, length-append front (b ∷ bs));
  spells = rw (take-append_seam front (b ∷ bs)) spells;
  longest = λ m other within there. up_to_blank front b bs m low (spells_solid there);
}

-- a letter begins a name
letter_class : (b : ℕ) → is_letter b ≡ true → class_of b ≡ Letter
letter_class b h = rw h refl

-- whether bytes have the form of an identifier
abbrev is_identifier : List ℕ → Bool
is_identifier [] = false
is_identifier (b ∷ bs) = is_letter b && list_all is_name_byte bs

identifier_passes : (bytes : List ℕ) → is_identifier bytes ≡ true → IsIdentifier bytes
identifier_passes [] h = absurd (cc)
identifier_passes (b ∷ bs) h =
    let p = both_hold (is_letter b) (list_all is_name_byte bs) h in (letter_class b p.0, AllPass-from_list_all is_name_byte bs p.1)

-- a keyword has it
keyword_form : (word : Keyword) → is_identifier (keyword_text word) ≡ true
keyword_form k.Array = refl
keyword_form k.Proc = refl
keyword_form k.Input = refl
keyword_form k.Mut = refl
keyword_form k.Ref = refl
keyword_form k.Int = refl
keyword_form k.Let = refl
keyword_form k.If = refl
keyword_form k.Else = refl
keyword_form k.While = refl
keyword_form k.Call = refl
keyword_form k.Fork = refl
keyword_form k.And = refl
keyword_form k.Split = refl
keyword_form k.At = refl
keyword_form k.Into = refl
keyword_form k.Len = refl
keyword_form k.Each = refl
keyword_form k.In = refl
keyword_form k.Give = refl

-- and is found in the table
keyword_found : (word : Keyword) → keyword_of (keyword_text word) ≡ Some word
unfolding keyword_of
keyword_found k.Array = refl
keyword_found k.Proc = refl
keyword_found k.Input = refl
keyword_found k.Mut = refl
keyword_found k.Ref = refl
keyword_found k.Int = refl
keyword_found k.Let = refl
keyword_found k.If = refl
keyword_found k.Else = refl
keyword_found k.While = refl
keyword_found k.Call = refl
keyword_found k.Fork = refl
keyword_found k.And = refl
keyword_found k.Split = refl
keyword_found k.At = refl
keyword_found k.Into = refl
keyword_found k.Len = refl
keyword_found k.Each = refl
keyword_found k.In = refl
keyword_found k.Give = refl

-- a sign is found in its table
sign_found : (sign : Sign) → sign_of (sign_text sign) ≡ Some sign
unfolding sign_of
sign_found s.OpenBracket = refl
sign_found s.CloseBracket = refl
sign_found s.OpenParen = refl
sign_found s.CloseParen = refl
sign_found s.OpenBrace = refl
sign_found s.CloseBrace = refl
sign_found s.Semicolon = refl
sign_found s.Comma = refl
sign_found s.Assign = refl
sign_found s.Plus = refl
sign_found s.Minus = refl
sign_found s.Times = refl
sign_found s.Divide = refl
sign_found s.Remainder = refl
sign_found s.Equal = refl
sign_found s.NotEqual = refl
sign_found s.Less = refl
sign_found s.LessEqual = refl
sign_found s.Greater = refl
sign_found s.GreaterEqual = refl
sign_found s.Both = refl
sign_found s.Either = refl

-- a name is an identifier
name_identifier : (bytes : List ℕ) → IsName bytes → IsIdentifier bytes
name_identifier [] h = absurd h
name_identifier (b ∷ bs) h = (letter_class b h.0, h.1)

-- a numeral is digits, and stands for its number
abbrev AreDigits : List ℕ → Type 0
AreDigits bytes = list_all is_digit bytes ≡ true

numerals : IsNumeralModel AreDigits (value_from 0)
numerals = numerals_by_fold _ (search rules) value_from (search rules)

byte_digit : (b : ℕ) → digit_value b < 10 → is_digit b ≡ true
byte_digit b h = let r = digit_from_value b h in grind (arith, nat_tests, r)

digit_class : (b : ℕ) → is_digit b ≡ true → class_of b ≡ Digit
digit_class b h = grind (arith, nat_tests)

all_digits : (bytes : List ℕ) → AllDigits 10 bytes → AllByRecursion (λ c. is_digit c ≡ true) bytes
all_digits [] h = tt
all_digits (b ∷ bs) h = (byte_digit b h.0, all_digits bs h.1)

are_digits : (bytes : List ℕ) → 0 < length bytes → AllDigits 10 bytes → IsDigits bytes
are_digits [] some h = absurd (omega (arith, some))
are_digits (b ∷ bs) some h =
    let all = all_digits (b ∷ bs) h in (digit_class b all.0, All-from_recursion (λ c. is_digit c ≡ true) bs all.1)

number_spells : (n : ℕ) → n < value_bound → Spells (decimal n) (kind.Number n)
number_spells n h =
    let fits : n < 2 ^ 64 = omega (arith, h) in
    let numeral = decimal_is_IsNumeral n fits in
    subst (λ v. Spells (decimal n) (kind.Number v)) (digits_value-decimal numerals n fits)
    (a_number (are_digits (decimal n) numeral.0.0 numeral.0.1))

-- the text of a token spells it
pub text_spells : (token : Kind) → HasForm token → Spells (token_text token) token
text_spells (kind.Name bytes) form = a_name (name_identifier bytes form.0) form.1
text_spells (kind.Number value) form = number_spells value form
text_spells (kind.Keyword word) form = a_keyword (identifier_passes (keyword_text word) (keyword_form word)) (keyword_found word)
text_spells (kind.Sign sign) form = a_sign (sign_found sign)
