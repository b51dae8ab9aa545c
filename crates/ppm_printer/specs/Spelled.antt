-- How the canonical text spells tokens: each with one blank after it, which is a line feed after `;`, `{` and `}`, else a space.
use Rattle.std.specs.Prelude.{◌≡◌, ℕ, List, [], ◌∷◌, ◌++◌, codes, decimal}
use Rattle.std.specs.List.{flat_map}
use Rattle.ppm_text.specs.declared.token.Keyword.{Keyword}
use Rattle.ppm_text.specs.declared.token.Keyword.TheVariants as k
use Rattle.ppm_text.specs.declared.token.Sign.{Sign}
use Rattle.ppm_text.specs.declared.token.Sign.TheVariants as s
use Rattle.ppm_text.specs.declared.token.Kind.{Kind}
use Rattle.ppm_text.specs.declared.token.Kind.TheVariants as kind

-- a keyword
abbrev pub keyword_text : Keyword → List ℕ
keyword_text k.Array = codes "array"
keyword_text k.Proc = codes "proc"
keyword_text k.Input = codes "input"
keyword_text k.Mut = codes "mut"
keyword_text k.Ref = codes "ref"
keyword_text k.Int = codes "int"
keyword_text k.Let = codes "let"
keyword_text k.If = codes "if"
keyword_text k.Else = codes "else"
keyword_text k.While = codes "while"
keyword_text k.Call = codes "call"
keyword_text k.Fork = codes "fork"
keyword_text k.And = codes "and"
keyword_text k.Split = codes "split"
keyword_text k.At = codes "at"
keyword_text k.Into = codes "into"
keyword_text k.Len = codes "len"
keyword_text k.Each = codes "each"
keyword_text k.In = codes "in"
keyword_text k.Give = codes "give"

-- a sign
abbrev pub sign_text : Sign → List ℕ
sign_text s.OpenBracket = codes "["
sign_text s.CloseBracket = codes "]"
sign_text s.OpenParen = codes "("
sign_text s.CloseParen = codes ")"
sign_text s.OpenBrace = codes "{"
sign_text s.CloseBrace = codes "}"
sign_text s.Semicolon = codes ";"
sign_text s.Comma = codes ","
sign_text s.Assign = codes "="
sign_text s.Plus = codes "+"
sign_text s.Minus = codes "-"
sign_text s.Times = codes "*"
sign_text s.Divide = codes "/"
sign_text s.Remainder = codes "%"
sign_text s.Equal = codes "=="
sign_text s.NotEqual = codes "!="
sign_text s.Less = codes "<"
sign_text s.LessEqual = codes "<="
sign_text s.Greater = codes ">"
sign_text s.GreaterEqual = codes ">="
sign_text s.Both = codes "&&"
sign_text s.Either = codes "||"

-- a token; a number is in decimal, with no leading zeros
abbrev pub token_text : Kind → List ℕ
token_text (kind.Name bytes) = bytes
token_text (kind.Number value) = decimal value
token_text (kind.Keyword word) = keyword_text word
token_text (kind.Sign sign) = sign_text sign

-- the blank after a sign
abbrev pub blank_behind_sign : Sign → ℕ
blank_behind_sign s.Semicolon = 10
blank_behind_sign s.OpenBrace = 10
blank_behind_sign s.CloseBrace = 10
blank_behind_sign _ = 32

-- the blank after a token
abbrev pub blank_behind : Kind → ℕ
blank_behind (kind.Sign sign) = blank_behind_sign sign
blank_behind _ = 32

-- a token with the blank after it
abbrev pub spaced : Kind → List ℕ
spaced token = token_text token ++ blank_behind token ∷ []

-- the text of tokens
abbrev pub text_of : List Kind → List ℕ
text_of tokens = flat_map spaced tokens

-- a text grew by tokens
abbrev pub Appends : List Kind → List ℕ → List ℕ → Type 0
Appends tokens old new = new ≡ old ++ text_of tokens
