-- The text of an example is lexed: what is written out by computing, and each number by itself.
use Rattle.std.proofs.Common.{◌≡◌, ◌∙◌, ℕ, zero, suc, ◌+◌, ◌-◌, ◌*◌, ◌<◌, ◌≤◌, List, [], ◌∷◌, ◌++◌, length, refl, arith, subst, ap, sym, append_assoc}
use Rattle.std.specs.Prelude.{codes, decimal}
use Rattle.std.specs.List.{prefix_len}
use Rattle.std.proofs.Math.Nat.{mod-lt}
use Rattle.std.proofs.lemmas.Fmt.{length-decimal-le, decimal_nonempty}
use Rattle.std.proofs.lemmas.List.{length-append}
use Rattle.ppm_words.specs.Names.{is_digit}
use Rattle.ppm_text.specs.declared.token.Keyword.TheVariants as k
use Rattle.ppm_text.specs.declared.token.Sign.TheVariants as s
use Rattle.ppm_text.specs.declared.token.Kind.TheVariants as kind
use Rattle.ppm_text.specs.declared.token.Token.{Token}
use Rattle.ppm_text.specs.Limits.{text_limit}
use Rattle.ppm_text.specs.Lexing.{located, Lexes, IsTextOf}
use Rattle.ppm_text.proofs.LexingLemmas.{joined}
use Rattle.ppm_plan.specs.Sources.{value_at, values_from, procedures_text, source_of}
use Rattle.ppm_example.proofs.LexingLemmas.{Spot, spot, placed, pieces_sound, lexed_length, number_lexed}
use Rattle.ppm_example.proofs.ReadingLemmas.{procedure_spots}

-- a value is less than 1000
pub value_small : (x i : ℕ) → value_at x i < 1000
value_small x i = mod-lt (x + 31 * i) (omega arith)

-- the tokens of values, each after a comma
abbrev pub value_tokens : (p x i count : ℕ) → List Token
value_tokens p x i zero = []
value_tokens p x i (suc count) =
    located (kind.Sign s.Comma) (p + 0) 2 ∷ located (kind.Number (value_at x i)) (p + 2) 2
    ∷ value_tokens (p + 2 + length (decimal (value_at x i))) x (i + 1) count

-- a comma and a blank
comma_lexed : (p : ℕ) (bytes : List ℕ) → Lexes p 2 (44 ∷ 32 ∷ bytes) (located (kind.Sign s.Comma) (p + 0) 2 ∷ []) (p + 2) 2 bytes
comma_lexed p bytes =
    pieces_sound 2 p p 2 (44 ∷ 32 ∷ bytes) (record { spots = spot (kind.Sign s.Comma) 0 2 ∷ []; behind = 2; line = 2; rest = bytes }) refl refl refl

-- no digit stands after a value
behind_value : (x i count : ℕ) (rest : List ℕ) → prefix_len is_digit rest ≡ 0 → prefix_len is_digit (values_from x i count ++ rest) ≡ 0
behind_value x i zero rest none = none
behind_value x i (suc count) rest none = refl

-- values are lexed
values_lexed : (x i count p : ℕ) (rest : List ℕ) {ts : List Token} {q m : ℕ} {end : List ℕ} → prefix_len is_digit rest ≡ 0
    → Lexes (p + length (values_from x i count)) 2 rest ts q m end → Lexes p 2 (values_from x i count ++ rest) (value_tokens p x i count ++ ts) q m end
values_lexed x i zero p rest {ts} {q} {m} {end} none more =
    let place : p + 0 ≡ p = omega arith in subst (λ at. Lexes at 2 rest ts q m end) place more
values_lexed x i (suc count) p rest {ts} {q} {m} {end} none more =
    let number = decimal (value_at x i) in
    let values = values_from x (i + 1) count in
    let long : p + length (44 ∷ 32 ∷ (number ++ values)) ≡ p + 2 + length number + length values = omega (arith, length-append number values) in
    let next = values_lexed x (i + 1) count (p + 2 + length number) rest none (subst (λ at. Lexes at 2 rest ts q m end) long more) in
    let behind = number_lexed (value_at x i) (p + 2) 2 (values ++ rest) (omega (arith, value_small x i)) (behind_value x (i + 1) count rest none) next in
    let tokens = located (kind.Number (value_at x i)) (p + 2) 2 ∷ (value_tokens (p + 2 + length number) x (i + 1) count ++ ts) in
    let there = subst (λ bs. Lexes (p + 2) 2 bs tokens q m end) (sym (append_assoc number values rest)) behind in
    joined (comma_lexed p ((number ++ values) ++ rest)) there

-- `array a[`, from the end of its length to the first value, and the rest
abbrev pub head_spots : List Spot
head_spots = spot (kind.Keyword k.Array) 0 1 ∷ spot (kind.Name (codes "a")) 6 1 ∷ spot (kind.Sign s.OpenBracket) 7 1 ∷ []

abbrev pub input_spots : List Spot
input_spots =
    spot (kind.Sign s.CloseBracket) 0 1 ∷ spot (kind.Sign s.Semicolon) 1 1 ∷ spot (kind.Keyword k.Input) 3 2 ∷ spot (kind.Name (codes "a")) 9 2
    ∷ spot (kind.Sign s.Assign) 11 2 ∷ []

head_lexed : (bytes : List ℕ) → 0 < length bytes → Lexes 0 1 (codes "array a[" ++ bytes) (placed 0 head_spots) 8 1 bytes
head_lexed [] some = absurd (omega (arith, some))
head_lexed (d ∷ bytes) some =
    pieces_sound 4 0 0 1 (codes "array a[" ++ d ∷ bytes) (record { spots = head_spots; behind = 8; line = 1; rest = d ∷ bytes }) refl refl refl

input_lexed : (p : ℕ) (bytes : List ℕ) → Lexes p 1 (codes "];\ninput a = " ++ bytes) (placed p input_spots) (p + 13) 2 bytes
input_lexed p bytes =
    pieces_sound 9 p p 1 (codes "];\ninput a = " ++ bytes) (record { spots = input_spots; behind = 13; line = 2; rest = bytes }) refl refl refl

end_lexed : (p : ℕ) → Lexes p 2 (codes ";\n" ++ procedures_text) (placed p procedure_spots) (p + 151) 4 []
end_lexed p =
    pieces_sound 109 p p 2 (codes ";\n" ++ procedures_text) (record { spots = procedure_spots; behind = 151; line = 4; rest = [] }) refl refl refl

module _ (size x : ℕ) where
  -- the places of the numbers, and of the end of the input
  abbrev pub behind_size : ℕ
  behind_size = 8 + length (decimal size)

  abbrev pub first_place : ℕ
  first_place = behind_size + 13

  abbrev pub more_place : ℕ
  more_place = first_place + length (decimal (value_at x 0))

  abbrev pub end_place : ℕ
  end_place = more_place + length (values_from x 1 (size - 1))

  -- the tokens from the values on, and all tokens
  abbrev pub later_tokens : List Token
  later_tokens =
      placed behind_size input_spots
      ++ located (kind.Number (value_at x 0)) first_place 2 ∷ (value_tokens more_place x 1 (size - 1) ++ placed end_place procedure_spots)

  abbrev pub example_tokens : List Token
  example_tokens = placed 0 head_spots ++ located (kind.Number size) 8 1 ∷ later_tokens

-- a text in the order in which it is lexed
grouped : (a b c d e f g : List ℕ) → a ++ b ++ c ++ d ++ e ++ f ++ g ≡ a ++ (b ++ (c ++ (d ++ (e ++ (f ++ g)))))
grouped a b c d e f g =
    append_assoc (a ++ b ++ c ++ d ++ e) f g ∙ append_assoc (a ++ b ++ c ++ d) e (f ++ g) ∙ append_assoc (a ++ b ++ c) d (e ++ (f ++ g))
    ∙ append_assoc (a ++ b) c (d ++ (e ++ (f ++ g))) ∙ append_assoc a b (c ++ (d ++ (e ++ (f ++ g))))

-- the text in that order, and what stands in it after the size and after the first value
abbrev text_behind_first : (size x : ℕ) → List ℕ
text_behind_first size x = values_from x 1 (size - 1) ++ (codes ";\n" ++ procedures_text)

abbrev text_behind_size : (size x : ℕ) → List ℕ
text_behind_size size x = codes "];\ninput a = " ++ (decimal (value_at x 0) ++ text_behind_first size x)

abbrev text_in_order : (size x : ℕ) → List ℕ
text_in_order size x = codes "array a[" ++ (decimal size ++ text_behind_size size x)

in_order : (size x : ℕ) → source_of size x ≡ text_in_order size x
in_order size x =
    grouped (codes "array a[") (decimal size) (codes "];\ninput a = ") (decimal (value_at x 0)) (values_from x 1 (size - 1)) (codes ";\n") procedures_text

module _ (size x : ℕ) (small : size ≤ 4096) where
  -- it is lexed
  text_lexed : Lexes 0 1 (text_in_order size x) (example_tokens size x) (end_place size x + 151) 4 []
  text_lexed =
      let end = end_lexed (end_place size x) in
      let values = values_lexed x 1 (size - 1) (more_place size x) (codes ";\n" ++ procedures_text) refl end in
      let first = number_lexed (value_at x 0) (first_place size x) 2 (text_behind_first size x) (omega (arith, value_small x 0))
      (behind_value x 1 (size - 1) (codes ";\n" ++ procedures_text) refl) values in
      let input = joined (input_lexed (behind_size size x) (decimal (value_at x 0) ++ text_behind_first size x)) first in
      let long = number_lexed size 8 1 (text_behind_size size x) (omega (arith, small)) refl input in
      joined
      (head_lexed (decimal size ++ text_behind_size size x)
      (omega (arith, decimal_nonempty size (omega (arith, small)), length-append (decimal size) (text_behind_size size x)))) long

  pub source_lexed : IsTextOf (source_of size x) (example_tokens size x)
  source_lexed =
      let lexed = text_lexed in
      let long : end_place size x + 151 ≡ length (text_in_order size x) = omega (arith, lexed_length lexed) in (
        4,
        subst (λ (text : List ℕ). Lexes 0 1 text (example_tokens size x) (length text) 4 []) (sym (in_order size x))
            (subst (λ q. Lexes 0 1 (text_in_order size x) (example_tokens size x) q 4 []) long lexed),
      )

-- a value has 3 digits at most, with its comma and blank 5 bytes
values_short : (x i count : ℕ) → length (values_from x i count) ≤ 5 * count
values_short x i zero = omega arith
values_short x i (suc count) =
    let small = value_small x i in
    omega (
      arith,
      values_short x (i + 1) count,
      length-append (decimal (value_at x i)) (values_from x (i + 1) count),
      length-decimal-le 3 (value_at x i) (omega arith) (omega (arith, small)) (omega (arith, small)),
    )

-- a text of at most 4,096 values is short
pub source_short : (size x : ℕ) → size ≤ 4096 → length (source_of size x) ≤ text_limit
source_short size x small =
    let value = value_small x 0 in
    omega (
      arith,
      ap length (in_order size x),
      lexed_length (text_lexed size x small),
      values_short x 1 (size - 1),
      length-decimal-le 4 size (omega arith) (omega (arith, small)) (omega (arith, small)),
      length-decimal-le 3 (value_at x 0) (omega arith) (omega (arith, value)) (omega (arith, value)),
    )
