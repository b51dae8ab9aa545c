-- A token has one spelling, and bytes have one longest token in front.
use Rattle.std.proofs.Common.{◌≡◌, ℕ, zero, suc, ◌<◌, ◌≤◌, Bool, true, false, cond, nat_le, ◌&&◌, List, [], ◌∷◌, length, take, Some, None}
use Rattle.std.proofs.Common.{arith, refl, ◌⊎◌, inl, inr, subst}
use Rattle.std.specs.Prelude.{Option}
use Rattle.std.proofs.lemmas.Bool.{leb-true}
use Rattle.std.proofs.lemmas.List.{length-take-le}
use Rattle.std.proofs.lemmas.Slice.Eq.{bytes_eq-Decides}
use Rattle.std.specs.Bool.{Decides}
use Rattle.std.specs.List.{prefix_len}
use Rattle.std.specs.Str.{bytes_eq}
use Rattle.ppm_words.specs.Limits.{name_limit}
use Rattle.ppm_words.specs.Names.{is_digit, is_name_byte, IsName}
use Rattle.ppm_text.specs.declared.byte_class.ByteClass.{ByteClass}
use Rattle.ppm_text.specs.declared.byte_class.ByteClass.TheVariants.{Letter, Digit, LineFeed, Blank, Hash, Mark, High}
use Rattle.ppm_text.specs.declared.token.Keyword.{Keyword}
use Rattle.ppm_text.specs.declared.token.Sign.{Sign}
use Rattle.ppm_text.specs.declared.token.Kind.{Kind}
use Rattle.ppm_text.specs.declared.token.Kind.TheVariants as kind
use Rattle.ppm_text.specs.Bytes.{class_of, BeginsWith}
use Rattle.ppm_text.specs.Spelling.{spelled, keywords, keyword_of, signs, sign_of, IsIdentifier, IsDigits}
use Rattle.ppm_text.specs.Spelling.{Spells, a_keyword, a_name, a_number, a_sign, NoneLonger, BeginsNoToken, Longest}
use Rattle.ppm_text.specs.Scanning.{IsSignOf, IsNoSign}
use Rattle.ppm_text.proofs.BytesLemmas.{prefix_first, all_taken, run_beyond, letter_byte, digit_byte, name_byte, prefix_le}

-- both parts of a test that holds
both_hold : (a b : Bool) → (a && b) ≡ true → (a ≡ true) × (b ≡ true)
both_hold true true h = (refl, refl)
both_hold true false h = absurd (cc)
both_hold false b h = absurd (cc)

-- each spelling in a table passes
abbrev each_row : {K : Type 0} → (List ℕ → Bool) → List (List ℕ × K) → Bool
each_row test [] = true
each_row test (row ∷ rows) = test row.0 && each_row test rows

-- what is found in a table passes
row_passes : {K : Type 0} (test : List ℕ → Bool) (rows : List (List ℕ × K)) → each_row test rows ≡ true
    → (bytes : List ℕ) (found : K) → spelled rows bytes ≡ Some found → test bytes ≡ true
row_passes test [] each bytes found is = absurd (cc)
row_passes {K} test (row ∷ rows) each bytes found is =
    let passes = both_hold (test row.0) (each_row test rows) each in
    go (bytes_eq row.0 bytes) (bytes_eq-Decides row.0 bytes) is passes.0 (row_passes test rows passes.1 bytes found)
  where
    go : (same : Bool) → Decides same (row.0 ≡ bytes) → cond same (Some row.1) (spelled rows bytes) ≡ Some found
        → test row.0 ≡ true → (spelled rows bytes ≡ Some found → test bytes ≡ true) → test bytes ≡ true
    go true d e first next = subst (λ (w : List ℕ). test w ≡ true) (d.0 refl) first
    go false d e first next = next e

-- one or two bytes, of which the first is a mark
abbrev IsMark : List ℕ → Type 0
IsMark [] = ⊥
IsMark (b ∷ bs) = (class_of b ≡ Mark) × (length bs ≤ 1)

-- whether a class is that of the marks
abbrev is_mark_class : ByteClass → Bool
is_mark_class Letter = false
is_mark_class Digit = false
is_mark_class LineFeed = false
is_mark_class Blank = false
is_mark_class Hash = false
is_mark_class Mark = true
is_mark_class High = false

-- the test is right
mark_class : (class : ByteClass) → is_mark_class class ≡ true → class ≡ Mark
mark_class Mark h = refl
mark_class _ h = absurd (cc)

-- a test for marks
abbrev is_mark : List ℕ → Bool
is_mark [] = false
is_mark (b ∷ bs) = is_mark_class (class_of b) && nat_le (length bs) 1

-- the test is right
mark_passes : (bytes : List ℕ) → is_mark bytes ≡ true → IsMark bytes
mark_passes [] h = absurd (cc)
mark_passes (b ∷ bs) h =
    let passes = both_hold (is_mark_class (class_of b)) (nat_le (length bs) 1) h in
    (mark_class (class_of b) passes.0, leb-true (length bs) 1 passes.1)

-- a sign is one or two bytes, of which the first is a mark
sign_is_mark : (bytes : List ℕ) (found : Sign) → sign_of bytes ≡ Some found → IsMark bytes
unfolding sign_of
sign_is_mark bytes found is = mark_passes bytes (row_passes is_mark signs refl bytes found is)

-- bytes with the length of no sign are none
pub no_sign : (bytes : List ℕ) → (1 ≤ length bytes → length bytes ≤ 2 → ⊥) → None ≡ sign_of bytes
no_sign bytes other = go (sign_of bytes) refl
  where
    some : (w : List ℕ) → IsMark w → (1 ≤ length w) × (length w ≤ 2)
    some [] mark = absurd mark
    some (b ∷ bs) mark = (omega arith, omega (arith, mark.1))

    go : (o : Option Sign) → sign_of bytes ≡ o → None ≡ o
    go None is = refl
    go (Some found) is = let within = some bytes (sign_is_mark bytes found is) in absurd (other within.0 within.1)

-- whether bytes have the length of a keyword
abbrev has_word_length : List ℕ → Bool
has_word_length bytes = nat_le 2 (length bytes) && nat_le (length bytes) 5

-- bytes with the length of no keyword are none
pub no_keyword : (bytes : List ℕ) → (2 ≤ length bytes → length bytes ≤ 5 → ⊥) → None ≡ keyword_of bytes
unfolding keyword_of
no_keyword bytes other = go (spelled keywords bytes) refl
  where
    go : (o : Option Keyword) → spelled keywords bytes ≡ o → None ≡ o
    go None is = refl
    go (Some found) is =
        let passes = both_hold (nat_le 2 (length bytes)) (nat_le (length bytes) 5) (row_passes has_word_length keywords refl bytes found is) in
        absurd (other (leb-true 2 (length bytes) passes.0) (leb-true (length bytes) 5 passes.1))

-- nothing is spelled by no bytes
pub spells_something : {bytes : List ℕ} {k : Kind} → Spells bytes k → bytes ≡ [] → ⊥
spells_something {bytes} (a_keyword identifier is) none = subst IsIdentifier none identifier
spells_something {bytes} (a_name identifier is) none = subst IsIdentifier none identifier
spells_something {bytes} (a_number digits) none = subst IsDigits none digits
spells_something {bytes} (a_sign {found = found} is) none = subst IsMark none (sign_is_mark bytes found is)

-- a letter begins identifiers alone
letter_spells : (b : ℕ) (bs : List ℕ) → class_of b ≡ Letter → {k : Kind} → Spells (b ∷ bs) k → IsIdentifier (b ∷ bs)
letter_spells b bs letter (a_keyword identifier is) = identifier
letter_spells b bs letter (a_name identifier is) = identifier
letter_spells b bs letter (a_number digits) = absurd (cc (digits.0, letter))
letter_spells b bs letter (a_sign {found = found} is) = absurd (cc ((sign_is_mark (b ∷ bs) found is).0, letter))

-- a digit begins numbers alone
digit_spells : (b : ℕ) (bs : List ℕ) → class_of b ≡ Digit → {k : Kind} → Spells (b ∷ bs) k → IsDigits (b ∷ bs)
digit_spells b bs digit (a_keyword identifier is) = absurd (cc (identifier.0, digit))
digit_spells b bs digit (a_name identifier is) = absurd (cc (identifier.0, digit))
digit_spells b bs digit (a_number digits) = digits
digit_spells b bs digit (a_sign {found = found} is) = absurd (cc ((sign_is_mark (b ∷ bs) found is).0, digit))

-- a mark begins signs alone
mark_spells : (b : ℕ) (bs : List ℕ) → class_of b ≡ Mark → {k : Kind} → Spells (b ∷ bs) k → (found : Sign) × (sign_of (b ∷ bs) ≡ Some found)
mark_spells b bs mark (a_keyword identifier is) = absurd (cc (identifier.0, mark))
mark_spells b bs mark (a_name identifier is) = absurd (cc (identifier.0, mark))
mark_spells b bs mark (a_number digits) = absurd (cc (digits.0, mark))
mark_spells b bs mark (a_sign {found = found} is) = (found, is)

-- a token begins with a letter, a digit or a mark
pub spells_class : (b : ℕ) (bs : List ℕ) {k : Kind} → Spells (b ∷ bs) k → (class_of b ≡ Letter) ⊎ ((class_of b ≡ Digit) ⊎ (class_of b ≡ Mark))
spells_class b bs (a_keyword identifier is) = inl identifier.0
spells_class b bs (a_name identifier is) = inl identifier.0
spells_class b bs (a_number digits) = inr (inl digits.0)
spells_class b bs (a_sign {found = found} is) = inr (inr (sign_is_mark (b ∷ bs) found is).0)

-- an identifier is no number
identifier_no_digits : (bytes : List ℕ) → IsIdentifier bytes → IsDigits bytes → ⊥
identifier_no_digits [] identifier digits = identifier
identifier_no_digits (b ∷ bs) identifier digits = cc (identifier.0, digits.0)

-- an identifier is no sign
identifier_no_sign : (bytes : List ℕ) (found : Sign) → IsIdentifier bytes → sign_of bytes ≡ Some found → ⊥
identifier_no_sign [] found identifier is = identifier
identifier_no_sign (b ∷ bs) found identifier is = cc (identifier.0, (sign_is_mark (b ∷ bs) found is).0)

-- a number is no sign
digits_no_sign : (bytes : List ℕ) (found : Sign) → IsDigits bytes → sign_of bytes ≡ Some found → ⊥
digits_no_sign [] found digits is = digits
digits_no_sign (b ∷ bs) found digits is = cc (digits.0, (sign_is_mark (b ∷ bs) found is).0)

-- bytes spell one token
pub one_kind : {bytes : List ℕ} {k : Kind} → Spells bytes k → {j : Kind} → Spells bytes j → k ≡ j
one_kind (a_keyword w is) (a_keyword w' is') = cc
one_kind (a_keyword w is) (a_name w' is') = absurd (cc (is, is'))
one_kind {bytes} (a_keyword w is) (a_number d) = absurd (identifier_no_digits bytes w d)
one_kind {bytes} (a_keyword w is) (a_sign {found = found} e) = absurd (identifier_no_sign bytes found w e)
one_kind (a_name w is) (a_keyword w' is') = absurd (cc (is, is'))
one_kind (a_name w is) (a_name w' is') = refl
one_kind {bytes} (a_name w is) (a_number d) = absurd (identifier_no_digits bytes w d)
one_kind {bytes} (a_name w is) (a_sign {found = found} e) = absurd (identifier_no_sign bytes found w e)
one_kind {bytes} (a_number d) (a_keyword w is) = absurd (identifier_no_digits bytes w d)
one_kind {bytes} (a_number d) (a_name w is) = absurd (identifier_no_digits bytes w d)
one_kind (a_number d) (a_number d') = refl
one_kind {bytes} (a_number d) (a_sign {found = found} e) = absurd (digits_no_sign bytes found d e)
one_kind {bytes} (a_sign {found = found} e) (a_keyword w is) = absurd (identifier_no_sign bytes found w e)
one_kind {bytes} (a_sign {found = found} e) (a_name w is) = absurd (identifier_no_sign bytes found w e)
one_kind {bytes} (a_sign {found = found} e) (a_number d) = absurd (digits_no_sign bytes found d e)
one_kind (a_sign e) (a_sign e') = cc

-- bytes have one longest token in front
pub one_longest : (bytes : List ℕ) (n m : ℕ) (k j : Kind) → Longest bytes n k → Longest bytes m j → (n ≡ m) × (k ≡ j)
one_longest bytes n m k j a b =
    let same : n ≡ m = omega (arith, a.longest m j b.within b.spells, b.longest n k a.within a.spells) in
    let there : Spells (take n bytes) j = rw same b.spells in
    (same, one_kind a.spells there)

-- the run of name bytes that begins with a letter is an identifier
pub run_is_identifier : (bytes : List ℕ) → BeginsWith Letter bytes → IsIdentifier (take (prefix_len is_name_byte bytes) bytes)
run_is_identifier [] begins = begins
run_is_identifier (b ∷ bs) begins = rw (prefix_first is_name_byte b bs (name_byte b begins)) (begins, all_taken is_name_byte bs)

-- the run of digits is a number
pub run_is_number : (bytes : List ℕ) → BeginsWith Digit bytes → IsDigits (take (prefix_len is_digit bytes) bytes)
run_is_number [] begins = begins
run_is_number (b ∷ bs) begins = rw (prefix_first is_digit b bs (digit_byte b begins)) (begins, all_taken is_digit bs)

-- an identifier of the length that a name may have
pub identifier_is_name : (bytes : List ℕ) → IsIdentifier bytes → length bytes ≤ name_limit → IsName bytes
identifier_is_name [] identifier short = identifier
identifier_is_name (b ∷ bs) identifier short = (letter_byte b identifier.0, identifier.1, omega arith)

-- no identifier in front is longer than the run
identifier_within : (bytes : List ℕ) → BeginsWith Letter bytes → NoneLonger bytes (prefix_len is_name_byte bytes)
identifier_within [] begins m other within spells = absurd begins
identifier_within (b ∷ bs) begins zero other within spells = omega arith
identifier_within (b ∷ bs) begins (suc m) other within spells =
    let identifier : IsIdentifier (b ∷ take m bs) = letter_spells b (take m bs) begins spells in
    omega (arith, run_beyond is_name_byte m bs (omega arith) identifier.1, prefix_first is_name_byte b bs (name_byte b begins))

-- no number in front is longer than the run
number_within : (bytes : List ℕ) → BeginsWith Digit bytes → NoneLonger bytes (prefix_len is_digit bytes)
number_within [] begins m other within spells = absurd begins
number_within (b ∷ bs) begins zero other within spells = omega arith
number_within (b ∷ bs) begins (suc m) other within spells =
    let digits : IsDigits (b ∷ take m bs) = digit_spells b (take m bs) begins spells in
    omega (arith, run_beyond is_digit m bs (omega arith) digits.1, prefix_first is_digit b bs (digit_byte b begins))

-- the run of name bytes is the longest token in front
pub longest_identifier : (bytes : List ℕ) (n : ℕ) (k : Kind) → BeginsWith Letter bytes → n ≡ prefix_len is_name_byte bytes
    → Spells (take n bytes) k → Longest bytes n k
longest_identifier bytes n k begins len spells = record {
  within = omega (arith, prefix_le is_name_byte bytes);
  spells = spells;
  longest = λ m other within there. omega (arith, identifier_within bytes begins m other within there);
}

-- the run of digits is the longest token in front
pub longest_number : (bytes : List ℕ) (n : ℕ) (k : Kind) → BeginsWith Digit bytes → n ≡ prefix_len is_digit bytes
    → Spells (take n bytes) k → Longest bytes n k
longest_number bytes n k begins len spells = record {
  within = omega (arith, prefix_le is_digit bytes);
  spells = spells;
  longest = λ m other within there. omega (arith, number_within bytes begins m other within there);
}

-- a token in front of a mark is a sign, of one or two bytes
pub sign_within : (bytes : List ℕ) → BeginsWith Mark bytes → (m : ℕ) (other : Kind) → m ≤ length bytes → Spells (take m bytes) other
    → (0 < m) × (m ≤ 2) × ((found : Sign) × (sign_of (take m bytes) ≡ Some found))
sign_within [] begins m other within spells = absurd begins
sign_within (b ∷ bs) begins zero other within spells = absurd (spells_something spells refl)
sign_within (b ∷ bs) begins (suc m) other within spells =
    let found = mark_spells b (take m bs) begins spells in
    let mark : IsMark (b ∷ take m bs) = sign_is_mark (b ∷ take m bs) found.0 found.1 in
    (omega arith, omega (arith, mark.1, length-take-le m bs (omega arith)), found)

-- a sign of two bytes is the longest token in front
pub longest_two : (bytes : List ℕ) (found : Sign) → BeginsWith Mark bytes → IsSignOf bytes 2 found → Longest bytes 2 (kind.Sign found)
longest_two bytes found begins is = record {
  within = is.0;
  spells = a_sign is.1;
  longest = λ m other inside there. (sign_within bytes begins m other inside there).1;
}

-- where the first two bytes are no sign, no token in front has two
only_one : (bytes : List ℕ) → BeginsWith Mark bytes → IsNoSign bytes 2
    → (m : ℕ) (other : Kind) → m ≤ length bytes → Spells (take m bytes) other → m ≡ 1
only_one bytes begins none zero other within there = absurd (omega (arith, (sign_within bytes begins 0 other within there).0))
only_one bytes begins none (suc zero) other within there = refl
only_one bytes begins none (suc (suc zero)) other within there =
    let found = (sign_within bytes begins 2 other within there).2 in absurd (cc (none within, found.1))
only_one bytes begins none (suc (suc (suc m))) other within there =
    absurd (omega (arith, (sign_within bytes begins (suc (suc (suc m))) other within there).1))

-- a sign of one byte is the longest token in front where the first two bytes are no sign
pub longest_one : (bytes : List ℕ) (found : Sign) → BeginsWith Mark bytes → IsNoSign bytes 2 → IsSignOf bytes 1 found → Longest bytes 1 (kind.Sign found)
longest_one bytes found begins none is = record {
  within = is.0;
  spells = a_sign is.1;
  longest = λ m other inside there. omega (arith, only_one bytes begins none m other inside there);
}

-- where neither the first byte nor the first two are a sign, nothing in front is a token
pub no_token : (bytes : List ℕ) → BeginsWith Mark bytes → IsNoSign bytes 2 → IsNoSign bytes 1 → BeginsNoToken bytes
no_token bytes begins none neither m other within there =
    let one : m ≡ 1 = only_one bytes begins none m other within there in
    let inside : 1 ≤ length bytes = omega arith in
    let spells : Spells (take 1 bytes) other = subst (λ (n : ℕ). Spells (take n bytes) other) one there in
    let found = (sign_within bytes begins 1 other inside spells).2 in
    cc (neither inside, found.1)
