-- The tokens of a text, as contracts see them, and what is always true of them.
use Rattle.std.specs.Prelude.{◌≡◌, ℕ, ◌+◌, ◌<◌, ◌≤◌, List, None}
use Rattle.std.specs.List.{All}
use Rattle.ppm_words.specs.Limits.{value_bound}
use Rattle.ppm_words.specs.Names.{IsName}
use Rattle.ppm_text.specs.declared.token.Kind.{Kind}
use Rattle.ppm_text.specs.declared.token.Kind.TheVariants as kind
use Rattle.ppm_text.specs.declared.token.Token.{Token}
use Rattle.ppm_text.specs.Limits.{text_limit}
use Rattle.ppm_text.specs.Spelling.{keyword_of}

-- the tokens of a text, with how many bytes the text has
pub record TextTokens : Type 0 where
  pub tokens : List Token
  pub text_len : ℕ

-- these tokens, of a text of so many bytes
abbrev pub text_tokens : List Token → ℕ → TextTokens
text_tokens tokens text_len = record { tokens = tokens; text_len = text_len }

-- a name is as names are and no keyword, and a number is a value of the language
abbrev pub HasForm : Kind → Type 0
HasForm (kind.Name bytes) = IsName bytes × (keyword_of bytes ≡ None)
HasForm (kind.Number value) = value < value_bound
HasForm (kind.Keyword keyword) = Unit {0}
HasForm (kind.Sign mark) = Unit {0}

-- a token has its form, and stands in a text of so many bytes: its place is below them, its line at most one more than its place
pub record StandsIn (text_len : ℕ) (t : Token) : Type 0 where
  pub form : HasForm t.kind
  pub place : t.place < text_len
  pub first_line : 1 ≤ t.line
  pub line : t.line ≤ t.place + 1

-- the text keeps its limit, and each token stands in it
pub record AreTokens (all : TextTokens) : Type 0 where
  pub short : all.text_len ≤ text_limit
  pub stand : All (StandsIn all.text_len) all.tokens
