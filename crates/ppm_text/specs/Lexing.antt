-- How a text is lexed into tokens.
use Rattle.std.specs.Prelude.{◌≡◌, ℕ, ◌+◌, List, [], ◌∷◌, length, drop}
use Rattle.std.specs.List.{prefix_len}
use Rattle.ppm_text.specs.declared.byte_class.ByteClass.TheVariants.{LineFeed, Blank, Hash}
use Rattle.ppm_text.specs.declared.token.Kind.{Kind}
use Rattle.ppm_text.specs.declared.token.Token.{Token}
use Rattle.ppm_text.specs.Bytes.{class_of, is_comment_byte}
use Rattle.ppm_text.specs.Spelling.{Longest, IsInRange}

-- the bytes begin with a blank or a comment of n bytes, which ends so many lines; a comment goes up to a line feed or the end
pub data Skips : List ℕ → ℕ → ℕ → Type 0 where
  line_feed : {b : ℕ} {bs : List ℕ} → class_of b ≡ LineFeed → Skips (b ∷ bs) 1 1
  blank : {b : ℕ} {bs : List ℕ} → class_of b ≡ Blank → Skips (b ∷ bs) 1 0
  comment : {b n : ℕ} {bs : List ℕ} → class_of b ≡ Hash → n ≡ 1 + prefix_len is_comment_byte bs → Skips (b ∷ bs) n 0

-- a token with its place and its line
abbrev pub located : Kind → ℕ → ℕ → Token
located token place line = record { kind = token; place = place; line = line }

-- from a place and a line on, the bytes are lexed into these tokens up to another place and line, and the rest follows
pub data Lexes : ℕ → ℕ → List ℕ → List Token → ℕ → ℕ → List ℕ → Type 0 where
  here : {p l : ℕ} {bs : List ℕ} → Lexes p l bs [] p l bs
  skip : {p l n f : ℕ} {bs : List ℕ} {ts : List Token} {q m : ℕ} {rest : List ℕ}
      → Skips bs n f → Lexes (p + n) (l + f) (drop n bs) ts q m rest → Lexes p l bs ts q m rest
  token : {p l n : ℕ} {bs : List ℕ} {k : Kind} {ts : List Token} {q m : ℕ} {rest : List ℕ}
      → Longest bs n k → IsInRange k → Lexes (p + n) l (drop n bs) ts q m rest → Lexes p l bs (located k p l ∷ ts) q m rest

-- the whole text is lexed into these tokens; places count from 0, lines from 1
abbrev pub IsTextOf : List ℕ → List Token → Type 0
IsTextOf text tokens = (line : ℕ) × Lexes 0 1 text tokens (length text) line []
