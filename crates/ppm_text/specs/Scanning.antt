-- What the functions of the scanner answer.
use Rattle.std.specs.Prelude.{◌≡◌, ℕ, ◌+◌, ◌<◌, ◌≤◌, ◌⊎◌, List, ◌++◌, length, take, drop, Some, None}
use Rattle.ppm_text.specs.declared.scan.Piece.{Piece}
use Rattle.ppm_text.specs.declared.scan.Piece.TheVariants as piece
use Rattle.ppm_text.specs.declared.token.Sign.{Sign}
use Rattle.ppm_text.specs.declared.token.Token.{Token}
use Rattle.ppm_text.specs.declared.text_error.TextError.{TextError}
use Rattle.ppm_text.specs.declared.text_error.TextError.TheVariants as error
use Rattle.ppm_text.specs.Spelling.{sign_of, Longest, IsInRange}
use Rattle.ppm_text.specs.Lexing.{Skips, Lexes}
use Rattle.ppm_text.specs.Refusals.{IsFault}

-- the first n bytes are this sign
abbrev pub IsSignOf : List ℕ → ℕ → Sign → Type 0
IsSignOf bytes n mark = (n ≤ length bytes) × (sign_of (take n bytes) ≡ Some mark)

-- so many bytes do not stand there, or they are no sign
abbrev pub IsNoSign : List ℕ → ℕ → Type 0
IsNoSign bytes n = n ≤ length bytes → sign_of (take n bytes) ≡ None

-- the bytes begin with the piece
abbrev pub IsInFront : List ℕ → Piece → Type 0
IsInFront bytes (piece.Skipped n lines) = Skips bytes n lines
IsInFront bytes (piece.Token kind n) = Longest bytes n kind × IsInRange kind

-- memory was refused, or the fault stands at the place
abbrev pub Stops : ℕ → List ℕ → TextError → Type 0
Stops place bytes e = (e ≡ error.NoMemory) ⊎ IsFault place bytes e

-- so many bytes in front are lexed into the tokens that are new, up to the line after them
pub record Advances (place line : ℕ) (bytes : List ℕ) (old new : List Token) (behind : ℕ × ℕ) : Type 0 where
  pub tokens : List Token
  pub added : new ≡ old ++ tokens
  pub lexed : Lexes place line bytes tokens (place + behind.0) behind.1 (drop behind.0 bytes)
  pub moves : 0 < behind.0
  pub within : behind.0 ≤ length bytes
  pub lines : behind.1 ≤ line + behind.0
