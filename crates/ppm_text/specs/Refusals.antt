-- When each error comes: the faults of a text, each at its place.
use Rattle.std.specs.Prelude.{◌≡◌, ℕ, ◌<◌, ◌≤◌, List, ◌∷◌, length}
use Rattle.ppm_words.specs.Limits.{name_limit, value_bound}
use Rattle.ppm_text.specs.declared.byte_class.ByteClass.TheVariants.{Mark, High}
use Rattle.ppm_text.specs.declared.token.Kind.TheVariants as kind
use Rattle.ppm_text.specs.declared.token.Token.{Token}
use Rattle.ppm_text.specs.declared.text_error.TextError.{TextError}
use Rattle.ppm_text.specs.declared.text_error.TextError.TheVariants as error
use Rattle.ppm_text.specs.Bytes.{class_of}
use Rattle.ppm_text.specs.Limits.{text_limit}
use Rattle.ppm_text.specs.Spelling.{Longest, BeginsNoToken}
use Rattle.ppm_text.specs.Lexing.{Lexes}

-- the bytes at the place begin with the fault
pub data IsFault : ℕ → List ℕ → TextError → Type 0 where
  not_ascii : {p b : ℕ} {bs : List ℕ} → class_of b ≡ High → IsFault p (b ∷ bs) (error.NotAscii p)
  bad_char : {p b : ℕ} {bs : List ℕ} → class_of b ≡ Mark → BeginsNoToken (b ∷ bs) → IsFault p (b ∷ bs) (error.BadChar p)
  number_too_big : {p n value : ℕ} {bs : List ℕ}
      → Longest bs n (kind.Number value) → value_bound ≤ value → IsFault p bs (error.NumberTooBig p)
  name_too_long : {p n : ℕ} {bs name : List ℕ}
      → Longest bs n (kind.Name name) → name_limit < length name → IsFault p bs (error.NameTooLong p)

-- the text is lexed up to a place, and the fault stands there
pub record FaultsAt (text : List ℕ) (error : TextError) : Type 0 where
  pub tokens : List Token
  pub place : ℕ
  pub line : ℕ
  pub rest : List ℕ
  pub lexed : Lexes 0 1 text tokens place line rest
  pub fault : IsFault place rest error

-- why a text is not lexed: it passes the limit, or has a fault; memory may be refused for any text within the limit
pub data IsRefused : List ℕ → TextError → Type 0 where
  too_long : {text : List ℕ} → text_limit < length text → IsRefused text (error.TooLong text_limit)
  faulty : {text : List ℕ} {e : TextError} → length text ≤ text_limit → FaultsAt text e → IsRefused text e
  no_memory : {text : List ℕ} → length text ≤ text_limit → IsRefused text error.NoMemory
