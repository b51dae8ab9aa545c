-- Bytes that are written out are lexed by computing: piece by piece, whatever follows.
use Rattle.std.proofs.Common.{◌≡◌, ℕ, zero, suc, ◌+◌, ◌<◌, Bool, true, false, nat_le, nat_lt, ◌&&◌, List, [], ◌∷◌, ◌++◌, length, take, drop, Some, None, refl, arith, subst, sym, length-drop}
use Rattle.std.specs.Prelude.{Option, decimal}
use Rattle.std.specs.List.{prefix_len, AllByRecursion}
use Rattle.std.proofs.Math.Seq.{take-append_seam, drop-append_seam}
use Rattle.std.proofs.lemmas.Bool.{leb-true, ltb-true}
use Rattle.std.proofs.lemmas.List.Elements.{recursion_from_All}
use Rattle.ppm_words.specs.Limits.{name_limit, value_bound}
use Rattle.ppm_words.specs.Names.{is_digit, is_name_byte}
use Rattle.ppm_text.specs.declared.byte_class.ByteClass.{ByteClass}
use Rattle.ppm_text.specs.declared.byte_class.ByteClass.TheVariants.{Letter, Digit, LineFeed, Blank, Hash, Mark, High}
use Rattle.ppm_text.specs.declared.token.Keyword.{Keyword}
use Rattle.ppm_text.specs.declared.token.Sign.{Sign}
use Rattle.ppm_text.specs.declared.token.Kind.{Kind}
use Rattle.ppm_text.specs.declared.token.Kind.TheVariants as kind
use Rattle.ppm_text.specs.declared.token.Token.{Token}
use Rattle.ppm_text.specs.Bytes.{class_of, BeginsWith, value_from}
use Rattle.ppm_text.specs.Spelling.{spelled, keywords, signs, keyword_of, sign_of, IsDigits, Spells, a_keyword, a_name, a_number, a_sign, Longest, IsInRange}
use Rattle.ppm_text.specs.Lexing.{Skips, line_feed, blank, located, Lexes, here, skip, token}
use Rattle.ppm_text.proofs.BytesLemmas.{prefix_first, digit_byte}
use Rattle.ppm_text.proofs.SpellingLemmas.{longest_one, longest_two, longest_number}
use Rattle.ppm_text.proofs.ScanLemmas.{front_keyword, front_name, front_number}
use Rattle.ppm_text.proofs.LexingLemmas.{skips_bounds}
use Rattle.ppm_printer.proofs.SpellingLemmas.{text_spells}

-- a token with how far it stands after some place, and its line
pub record Spot : Type 0 where
  pub kind : Kind
  pub behind : ℕ
  pub line : ℕ

abbrev pub spot : Kind → ℕ → ℕ → Spot
spot k n l = record { kind = k; behind = n; line = l }

-- the tokens, from a place on
abbrev pub placed : ℕ → List Spot → List Token
placed p [] = []
placed p (s ∷ spots) = located s.kind (p + s.behind) s.line ∷ placed p spots

-- a piece in front of bytes: a blank that ends so many lines, or a token of so many bytes
pub data Piece : Type 0 where
  A_blank : (lines : ℕ) → Piece
  A_token : (bytes : ℕ) (token : Kind) → Piece

-- a word, and one or two bytes that may be a sign
abbrev pub word_piece : ℕ → List ℕ → Option Keyword → Option Piece
word_piece n bytes (Some found) = Some (A_token n (kind.Keyword found))
word_piece n bytes None = Some (A_token n (kind.Name bytes))

abbrev pub sign_piece : ℕ → Option Sign → Option Piece → Option Piece
sign_piece n (Some found) other = Some (A_token n (kind.Sign found))
sign_piece n None other = other

abbrev pub marks_piece : List ℕ → Option Piece
marks_piece [] = None
marks_piece (b ∷ []) = sign_piece 1 (spelled signs (b ∷ [])) None
marks_piece (b ∷ c ∷ bs) = sign_piece 2 (spelled signs (b ∷ c ∷ [])) (sign_piece 1 (spelled signs (b ∷ [])) None)

-- the piece in front: a blank, a word, a number or a sign; no byte of the example is another
abbrev pub piece_of : ByteClass → List ℕ → Option Piece
piece_of Letter bytes =
    word_piece (prefix_len is_name_byte bytes) (take (prefix_len is_name_byte bytes) bytes) (spelled keywords (take (prefix_len is_name_byte bytes) bytes))
piece_of Digit bytes = Some (A_token (prefix_len is_digit bytes) (kind.Number (value_from 0 (take (prefix_len is_digit bytes) bytes))))
piece_of Mark bytes = marks_piece bytes
piece_of LineFeed bytes = Some (A_blank 1)
piece_of Blank bytes = Some (A_blank 0)
piece_of _ bytes = None

abbrev pub piece_in : List ℕ → Option Piece
piece_in [] = None
piece_in (b ∷ bs) = piece_of (class_of b) (b ∷ bs)

-- what so many pieces are, and what follows
pub record Lexed : Type 0 where
  pub spots : List Spot
  pub behind : ℕ
  pub line : ℕ
  pub rest : List ℕ

abbrev pub with_spot : Spot → Option Lexed → Option Lexed
with_spot s None = None
with_spot s (Some l) = Some (record { spots = s ∷ l.spots; behind = l.behind; line = l.line; rest = l.rest })

-- the piece in front, and those after it
abbrev pub pieces_behind : (ℕ → ℕ → List ℕ → Option Lexed) → (n l : ℕ) → List ℕ → Option Piece → Option Lexed
pieces_behind next n l bytes None = None
pieces_behind next n l bytes (Some (A_blank lines)) = next (n + 1) (l + lines) (drop 1 bytes)
pieces_behind next n l bytes (Some (A_token m k)) = with_spot (spot k n l) (next (n + m) l (drop m bytes))

-- so many pieces in front of the bytes
abbrev pub pieces : (count n l : ℕ) → List ℕ → Option Lexed
pieces zero n l bytes = Some (record { spots = []; behind = n; line = l; rest = bytes })
pieces (suc count) n l bytes = pieces_behind (pieces count) n l bytes (piece_in bytes)

-- the tables are those of the language
keyword_is : (bytes : List ℕ) → keyword_of bytes ≡ spelled keywords bytes
unfolding keyword_of
keyword_is bytes = refl

sign_is : (bytes : List ℕ) → sign_of bytes ≡ spelled signs bytes
unfolding sign_of
sign_is bytes = refl

-- equal pieces are one token
same_token : (bytes : List ℕ) (n m : ℕ) (k j : Kind) → Some (A_token n k) ≡ Some (A_token m j) → Longest bytes n k → Longest bytes m j
same_token bytes n m k j is t = let one : n ≡ m = cc (is) in let two : k ≡ j = cc (is) in rw (sym one, sym two) t

-- a word in front is the longest token there
word_sound : (bytes : List ℕ) (n m : ℕ) (k : Kind) → n ≡ prefix_len is_name_byte bytes → BeginsWith Letter bytes
    → word_piece n (take n bytes) (keyword_of (take n bytes)) ≡ Some (A_token m k) → Longest bytes m k
word_sound bytes n m k long begins is = go (keyword_of (take n bytes)) refl is
  where
    go : (found : Option Keyword) → keyword_of (take n bytes) ≡ found → word_piece n (take n bytes) found ≡ Some (A_token m k) → Longest bytes m k
    go (Some found) known same = same_token bytes n m (kind.Keyword found) k same (front_keyword bytes n found begins long known)
    go None known same = same_token bytes n m (kind.Name (take n bytes)) k same (front_name bytes n begins long known)

-- and so is a sign
sign_sound : (b c m : ℕ) (bs : List ℕ) (k : Kind) → class_of b ≡ Mark
    → sign_piece 2 (sign_of (b ∷ c ∷ [])) (sign_piece 1 (sign_of (b ∷ [])) None) ≡ Some (A_token m k) → Longest (b ∷ c ∷ bs) m k
sign_sound b c m bs k begins is = go (sign_of (b ∷ c ∷ [])) refl is
  where
    one : (found : Option Sign) → sign_of (b ∷ []) ≡ found → sign_of (b ∷ c ∷ []) ≡ None → sign_piece 1 found None ≡ Some (A_token m k)
        → Longest (b ∷ c ∷ bs) m k
    one (Some found) known none same =
        same_token (b ∷ c ∷ bs) 1 m (kind.Sign found) k same (longest_one (b ∷ c ∷ bs) found begins (λ h. none) (omega arith, known))
    one None known none same = absurd (cc (same))

    go : (found : Option Sign) → sign_of (b ∷ c ∷ []) ≡ found → sign_piece 2 found (sign_piece 1 (sign_of (b ∷ [])) None) ≡ Some (A_token m k)
        → Longest (b ∷ c ∷ bs) m k
    go (Some found) known same = same_token (b ∷ c ∷ bs) 2 m (kind.Sign found) k same (longest_two (b ∷ c ∷ bs) found begins (omega arith, known))
    go None known same = one (sign_of (b ∷ [])) refl known same

last_sound : (b m : ℕ) (k : Kind) → class_of b ≡ Mark → sign_piece 1 (sign_of (b ∷ [])) None ≡ Some (A_token m k) → Longest (b ∷ []) m k
last_sound b m k begins is = go (sign_of (b ∷ [])) refl is
  where
    go : (found : Option Sign) → sign_of (b ∷ []) ≡ found → sign_piece 1 found None ≡ Some (A_token m k) → Longest (b ∷ []) m k
    go (Some found) known same =
        same_token (b ∷ []) 1 m (kind.Sign found) k same
        (longest_one (b ∷ []) found begins (λ h. absurd (omega (arith, h))) (omega arith, known))
    go None known same = absurd (cc (same))

-- what a piece in front is
abbrev IsPiece : List ℕ → Piece → Type 0
IsPiece bytes (A_blank lines) = Skips bytes 1 lines
IsPiece bytes (A_token m k) = Longest bytes m k

piece_sound : (class : ByteClass) (b : ℕ) (bs : List ℕ) (piece : Piece) → class_of b ≡ class → piece_of class (b ∷ bs) ≡ Some piece
    → IsPiece (b ∷ bs) piece
piece_sound Letter b bs (A_token m k) begins is =
    word_sound (b ∷ bs) (prefix_len is_name_byte (b ∷ bs)) m k refl begins
    (rw (keyword_is (take (prefix_len is_name_byte (b ∷ bs)) (b ∷ bs))) is)
piece_sound Letter b bs (A_blank lines) begins is = absurd (no_blank (spelled keywords (take (prefix_len is_name_byte (b ∷ bs)) (b ∷ bs))) is)
  where
    no_blank : (found : Option Keyword)
        → word_piece (prefix_len is_name_byte (b ∷ bs)) (take (prefix_len is_name_byte (b ∷ bs)) (b ∷ bs)) found ≡ Some (A_blank lines) → ⊥
    no_blank (Some found) same = cc (same)
    no_blank None same = cc (same)
piece_sound Mark b [] (A_token m k) begins is = last_sound b m k begins (rw (sign_is (b ∷ [])) is)
piece_sound Mark b [] (A_blank lines) begins is = absurd (no_blank (spelled signs (b ∷ [])) is)
  where
    no_blank : (one : Option Sign) → sign_piece 1 one None ≡ Some (A_blank lines) → ⊥
    no_blank (Some found) same = cc (same)
    no_blank None same = cc (same)
piece_sound Mark b (c ∷ bs) (A_token m k) begins is = sign_sound b c m bs k begins (rw (sign_is (b ∷ c ∷ []), sign_is (b ∷ [])) is)
piece_sound Mark b (c ∷ bs) (A_blank lines) begins is = absurd (no_blank (spelled signs (b ∷ c ∷ [])) (spelled signs (b ∷ [])) is)
  where
    no_blank : (two one : Option Sign) → sign_piece 2 two (sign_piece 1 one None) ≡ Some (A_blank lines) → ⊥
    no_blank (Some found) one same = cc (same)
    no_blank None (Some found) same = cc (same)
    no_blank None None same = cc (same)
piece_sound LineFeed b bs (A_blank lines) begins is = let one : 1 ≡ lines = cc (is) in rw (sym one) (line_feed begins)
piece_sound LineFeed b bs (A_token m k) begins is = absurd (cc (is))
piece_sound Blank b bs (A_blank lines) begins is = let none : 0 ≡ lines = cc (is) in rw (sym none) (blank begins)
piece_sound Blank b bs (A_token m k) begins is = absurd (cc (is))
piece_sound Digit b bs (A_token m k) begins is =
    let n = prefix_len is_digit (b ∷ bs) in
    let value = value_from 0 (take n (b ∷ bs)) in
    same_token (b ∷ bs) n m (kind.Number value) k is (front_number (b ∷ bs) n value begins refl refl)
piece_sound Digit b bs (A_blank lines) begins is = absurd (cc (is))
piece_sound Hash b bs piece begins is = absurd (cc (is))
piece_sound High b bs piece begins is = absurd (cc (is))

front_sound : (bytes : List ℕ) (piece : Piece) → piece_in bytes ≡ Some piece → IsPiece bytes piece
front_sound [] piece is = absurd (cc (is))
front_sound (b ∷ bs) piece is = piece_sound (class_of b) b bs piece refl is

-- each token is within the limits of the language
abbrev pub AllInRange : List Spot → Type 0
AllInRange [] = Unit {0}
AllInRange (s ∷ spots) = IsInRange s.kind × AllInRange spots

-- a test that a token is within the limits
abbrev is_in_range : Kind → Bool
is_in_range (kind.Name bytes) = nat_le (length bytes) name_limit
is_in_range (kind.Number value) = nat_lt value value_bound
is_in_range (kind.Keyword word) = true
is_in_range (kind.Sign mark) = true

abbrev pub all_in_range : List Spot → Bool
all_in_range [] = true
all_in_range (s ∷ spots) = is_in_range s.kind && all_in_range spots

-- the test is right
in_range : (k : Kind) → is_in_range k ≡ true → IsInRange k
in_range (kind.Name bytes) h = leb-true (length bytes) name_limit h
in_range (kind.Number value) h = ltb-true value value_bound h
in_range (kind.Keyword word) h = tt
in_range (kind.Sign mark) h = tt

-- both parts of a test that holds
pub both_hold : (a b : Bool) → (a && b) ≡ true → (a ≡ true) × (b ≡ true)
both_hold true true h = (refl, refl)
both_hold true false h = absurd (cc)
both_hold false b h = absurd (cc)

all_range : (spots : List Spot) → all_in_range spots ≡ true → AllInRange spots
all_range [] h = tt
all_range (s ∷ spots) h =
    let p = both_hold (is_in_range s.kind) (all_in_range spots) h in (in_range s.kind p.0, all_range spots p.1)

-- the bytes are lexed into these pieces, from a place on
abbrev Reaches : (p n l : ℕ) → List ℕ → Lexed → Type 0
Reaches p n l bytes lexed = Lexes (p + n) l bytes (placed p lexed.spots) (p + lexed.behind) lexed.line lexed.rest

-- so many pieces are lexed as they are told
abbrev AreSound : ℕ → ℕ → Type 0
AreSound p count =
    (n l : ℕ) (bytes : List ℕ) (lexed : Lexed) → pieces count n l bytes ≡ Some lexed → AllInRange lexed.spots → Reaches p n l bytes lexed

token_sound : (p count m n l : ℕ) (k : Kind) (bytes : List ℕ) (lexed : Lexed) (more : Option Lexed) → AreSound p count
    → pieces count (n + m) l (drop m bytes) ≡ more → Longest bytes m k → with_spot (spot k n l) more ≡ Some lexed → AllInRange lexed.spots
    → Reaches p n l bytes lexed
token_sound p count m n l k bytes lexed None sound known t same fits = absurd (cc (same))
token_sound p count m n l k bytes lexed (Some more) sound known t same fits =
    let whole : record { spots = spot k n l ∷ more.spots; behind = more.behind; line = more.line; rest = more.rest } ≡ lexed = cc (same) in
    let all : AllInRange (spot k n l ∷ more.spots) = subst (λ (w : Lexed). AllInRange w.spots) (sym whole) fits in
    let next : Reaches p (n + m) l (drop m bytes) more = sound (n + m) l (drop m bytes) more known all.1 in
    let place : p + (n + m) ≡ p + n + m = omega arith in
    subst (Reaches p n l bytes) whole
    (token t all.0 (subst (λ q. Lexes q l (drop m bytes) (placed p more.spots) (p + more.behind) more.line more.rest) place next))

step_sound : (p count n l : ℕ) (bytes : List ℕ) (lexed : Lexed) (piece : Option Piece) → AreSound p count → piece_in bytes ≡ piece
    → pieces_behind (pieces count) n l bytes piece ≡ Some lexed → AllInRange lexed.spots → Reaches p n l bytes lexed
step_sound p count n l bytes lexed None sound known same fits = absurd (cc (same))
step_sound p count n l bytes lexed (Some (A_blank lines)) sound known same fits =
    let next : Reaches p (n + 1) (l + lines) (drop 1 bytes) lexed = sound (n + 1) (l + lines) (drop 1 bytes) lexed same fits in
    let place : p + (n + 1) ≡ p + n + 1 = omega arith in
    skip (front_sound bytes (A_blank lines) known)
    (subst (λ q. Lexes q (l + lines) (drop 1 bytes) (placed p lexed.spots) (p + lexed.behind) lexed.line lexed.rest) place next)
step_sound p count n l bytes lexed (Some (A_token m k)) sound known same fits =
    token_sound p count m n l k bytes lexed (pieces count (n + m) l (drop m bytes)) sound refl (front_sound bytes (A_token m k) known) same fits

all_sound : (p count : ℕ) → AreSound p count
all_sound p zero n l bytes lexed is fits =
    let same : record { spots = []; behind = n; line = l; rest = bytes } ≡ lexed = cc (is) in subst (Reaches p n l bytes) same here
all_sound p (suc count) n l bytes lexed is fits = step_sound p count n l bytes lexed (piece_in bytes) (all_sound p count) refl is fits

-- pieces are lexed as they are told
pub pieces_sound : (count p q l : ℕ) (bytes : List ℕ) (lexed : Lexed) → q ≡ p → pieces count 0 l bytes ≡ Some lexed
    → all_in_range lexed.spots ≡ true → Lexes q l bytes (placed p lexed.spots) (p + lexed.behind) lexed.line lexed.rest
pieces_sound count p q l bytes lexed there is fits =
    let whole = all_sound p count 0 l bytes lexed is (all_range lexed.spots fits) in
    let place : p + 0 ≡ q = omega (arith, there) in
    subst (λ at. Lexes at l bytes (placed p lexed.spots) (p + lexed.behind) lexed.line lexed.rest) place whole

-- bytes that are lexed end where the rest begins
pub lexed_length : {p l : ℕ} {bs : List ℕ} {ts : List Token} {q m : ℕ} {rest : List ℕ} → Lexes p l bs ts q m rest
    → q + length rest ≡ p + length bs
lexed_length here = refl
lexed_length (skip {p = p} {n = n} {bs = bs} s more) = omega (arith, lexed_length more, length-drop n bs, (skips_bounds s).1)
lexed_length (token {p = p} {n = n} {bs = bs} t fits more) = omega (arith, lexed_length more, length-drop n bs, t.within)

-- digits are digits
spelled_digits : {bytes : List ℕ} {k : Kind} (v : ℕ) → Spells bytes k → k ≡ kind.Number v → IsDigits bytes
spelled_digits v (a_number digits) is = digits
spelled_digits v (a_keyword w e) is = absurd (cc (is))
spelled_digits v (a_name w e) is = absurd (cc (is))
spelled_digits v (a_sign e) is = absurd (cc (is))

-- the run of digits ends with a number after which no digit stands
digits_run : (bytes rest : List ℕ) → AllByRecursion (λ b. is_digit b ≡ true) bytes → prefix_len is_digit rest ≡ 0
    → prefix_len is_digit (bytes ++ rest) ≡ length bytes
digits_run [] rest all none = none
digits_run (b ∷ bytes) rest all none = omega (arith, prefix_first is_digit b (bytes ++ rest) all.0, digits_run bytes rest all.1 none)

all_digits : (bytes : List ℕ) → IsDigits bytes → AllByRecursion (λ b. is_digit b ≡ true) bytes
all_digits [] digits = absurd digits
all_digits (b ∷ bs) digits = (digit_byte b digits.0, recursion_from_All (λ c. is_digit c ≡ true) bs digits.1)

begins_digit : (bytes rest : List ℕ) → IsDigits bytes → BeginsWith Digit (bytes ++ rest)
begins_digit [] rest digits = absurd digits
begins_digit (b ∷ bs) rest digits = digits.0

-- a number in decimal, after which no digit stands
pub number_lexed : (n p l : ℕ) (rest : List ℕ) {ts : List Token} {q m : ℕ} {end : List ℕ} → n < value_bound → prefix_len is_digit rest ≡ 0
    → Lexes (p + length (decimal n)) l rest ts q m end → Lexes p l (decimal n ++ rest) (located (kind.Number n) p l ∷ ts) q m end
number_lexed n p l rest {ts} {q} {m} {end} small none more =
    let spells : Spells (decimal n) (kind.Number n) = text_spells (kind.Number n) small in
    let digits : IsDigits (decimal n) = spelled_digits n spells refl in
    let there : Spells (take (length (decimal n)) (decimal n ++ rest)) (kind.Number n) = rw (take-append_seam (decimal n) rest) spells in
    let longest : Longest (decimal n ++ rest) (length (decimal n)) (kind.Number n) =
    longest_number (decimal n ++ rest) (length (decimal n)) (kind.Number n) (begins_digit (decimal n) rest digits)
    (sym (digits_run (decimal n) rest (all_digits (decimal n) digits) none)) there in
    token longest small (subst (λ bs. Lexes (p + length (decimal n)) l bs ts q m end) (sym (drop-append_seam (decimal n) rest)) more)
