-- How a token is spelled, of whatever length and size.
use Rattle.std.specs.Prelude.{◌≡◌, ℕ, ◌<◌, ◌≤◌, if◌then◌else◌, List, [], ◌∷◌, length, take, codes, Option, Some, None}
use Rattle.std.specs.List.{AllPass}
use Rattle.std.specs.Str.{bytes_eq}
use Rattle.ppm_words.specs.Limits.{name_limit, value_bound}
use Rattle.ppm_words.specs.Names.{is_digit, is_name_byte}
use Rattle.ppm_text.specs.declared.byte_class.ByteClass.TheVariants.{Letter, Digit}
use Rattle.ppm_text.specs.declared.token.Keyword.{Keyword}
use Rattle.ppm_text.specs.declared.token.Keyword.TheVariants as keyword
use Rattle.ppm_text.specs.declared.token.Sign.{Sign}
use Rattle.ppm_text.specs.declared.token.Sign.TheVariants as sign
use Rattle.ppm_text.specs.declared.token.Kind.{Kind}
use Rattle.ppm_text.specs.declared.token.Kind.TheVariants as kind
use Rattle.ppm_text.specs.Bytes.{class_of, value_from}

-- the keywords
abbrev pub keywords : List (List ℕ × Keyword)
keywords =
    (codes "array", keyword.Array) ∷ (codes "proc", keyword.Proc) ∷ (codes "input", keyword.Input) ∷ (codes "mut", keyword.Mut)
    ∷ (codes "ref", keyword.Ref) ∷ (codes "int", keyword.Int) ∷ (codes "let", keyword.Let) ∷ (codes "if", keyword.If)
    ∷ (codes "else", keyword.Else) ∷ (codes "while", keyword.While) ∷ (codes "call", keyword.Call) ∷ (codes "fork", keyword.Fork)
    ∷ (codes "and", keyword.And) ∷ (codes "split", keyword.Split) ∷ (codes "at", keyword.At) ∷ (codes "into", keyword.Into)
    ∷ (codes "len", keyword.Len) ∷ (codes "each", keyword.Each) ∷ (codes "in", keyword.In) ∷ (codes "give", keyword.Give) ∷ []

-- the signs
abbrev pub signs : List (List ℕ × Sign)
signs =
    (codes "[", sign.OpenBracket) ∷ (codes "]", sign.CloseBracket) ∷ (codes "(", sign.OpenParen) ∷ (codes ")", sign.CloseParen)
    ∷ (codes "{", sign.OpenBrace) ∷ (codes "}", sign.CloseBrace) ∷ (codes ";", sign.Semicolon) ∷ (codes ",", sign.Comma)
    ∷ (codes "=", sign.Assign) ∷ (codes "+", sign.Plus) ∷ (codes "-", sign.Minus) ∷ (codes "*", sign.Times)
    ∷ (codes "/", sign.Divide) ∷ (codes "%", sign.Remainder) ∷ (codes "==", sign.Equal) ∷ (codes "!=", sign.NotEqual)
    ∷ (codes "<", sign.Less) ∷ (codes "<=", sign.LessEqual) ∷ (codes ">", sign.Greater) ∷ (codes ">=", sign.GreaterEqual)
    ∷ (codes "&&", sign.Both) ∷ (codes "||", sign.Either) ∷ []

-- what the first row with these bytes says
abbrev pub spelled : {K : Type 0} → List (List ℕ × K) → List ℕ → Option K
spelled [] bytes = None
spelled (row ∷ rows) bytes = if bytes_eq row.0 bytes then Some row.1 else spelled rows bytes

-- the keyword of this spelling
unfoldable pub keyword_of : List ℕ → Option Keyword
keyword_of bytes = spelled keywords bytes

-- the sign of this spelling
unfoldable pub sign_of : List ℕ → Option Sign
sign_of bytes = spelled signs bytes

-- an identifier: a letter or `_`, then letters, digits and `_`
abbrev pub IsIdentifier : List ℕ → Type 0
IsIdentifier [] = ⊥
IsIdentifier (b ∷ bs) = (class_of b ≡ Letter) × AllPass is_name_byte bs

-- digits, one at least
abbrev pub IsDigits : List ℕ → Type 0
IsDigits [] = ⊥
IsDigits (b ∷ bs) = (class_of b ≡ Digit) × AllPass is_digit bs

-- the bytes, from the first to the last, are this token: an identifier is a keyword or else a name
pub data Spells : List ℕ → Kind → Type 0 where
  a_keyword : {bytes : List ℕ} {found : Keyword} → IsIdentifier bytes → keyword_of bytes ≡ Some found → Spells bytes (kind.Keyword found)
  a_name : {bytes : List ℕ} → IsIdentifier bytes → keyword_of bytes ≡ None → Spells bytes (kind.Name bytes)
  a_number : {bytes : List ℕ} → IsDigits bytes → Spells bytes (kind.Number (value_from 0 bytes))
  a_sign : {bytes : List ℕ} {found : Sign} → sign_of bytes ≡ Some found → Spells bytes (kind.Sign found)

-- no token in front of the bytes has more than n of them
abbrev pub NoneLonger : List ℕ → ℕ → Type 0
NoneLonger bytes n = (m : ℕ) (other : Kind) → m ≤ length bytes → Spells (take m bytes) other → m ≤ n

-- no token begins the bytes
abbrev pub BeginsNoToken : List ℕ → Type 0
BeginsNoToken bytes = (m : ℕ) (other : Kind) → m ≤ length bytes → Spells (take m bytes) other → ⊥

-- the longest token in front of the bytes is this one, of n bytes
pub record Longest (bytes : List ℕ) (n : ℕ) (token : Kind) : Type 0 where
  pub within : n ≤ length bytes
  pub spells : Spells (take n bytes) token
  pub longest : NoneLonger bytes n

-- what the language allows: names within their limit, and numbers that are values
abbrev pub IsInRange : Kind → Type 0
IsInRange (kind.Name bytes) = length bytes ≤ name_limit
IsInRange (kind.Number value) = value < value_bound
IsInRange (kind.Keyword keyword) = Unit {0}
IsInRange (kind.Sign mark) = Unit {0}
