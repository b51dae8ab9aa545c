-- What stands at a place, and what could stand there, in words.
use Rattle.std.specs.Prelude.{ℕ, ◌==◌, if◌then◌else◌, Bool, true, false, List, [], ◌∷◌, ◌++◌, codes, decimal, Option, Some, None}
use Rattle.ppm_text.specs.declared.token.Kind.{Kind}
use Rattle.ppm_text.specs.declared.token.Kind.TheVariants as kind
use Rattle.ppm_text.specs.declared.token.Token.{Token}
use Rattle.ppm_rows.specs.Kinds.{Terminal, Name, Number, Word, Mark}
use Rattle.ppm_printer.specs.Spelled.{keyword_text, sign_text, token_text}

-- in backticks
abbrev pub quoted : List ℕ → List ℕ
quoted text = codes "`" ++ text ++ codes "`"

-- a number after words
abbrev pub counted_text : List ℕ → ℕ → List ℕ
counted_text words number = words ++ decimal number

-- a token after words, and its line after others
abbrev pub located_text : List ℕ → Kind → List ℕ → ℕ → List ℕ
located_text words k others line = words ++ token_text k ++ others ++ decimal line ++ codes "\n"

-- four parts, one after another
abbrev pub four_text : List ℕ → List ℕ → List ℕ → List ℕ → List ℕ
four_text a b c d = a ++ b ++ c ++ d

-- what a token is called
abbrev pub kind_name : Kind → List ℕ
kind_name (kind.Name bytes) = codes "the name "
kind_name (kind.Number value) = codes "the number "
kind_name (kind.Keyword keyword) = codes "the word "
kind_name (kind.Sign sign) = codes "the sign "

-- a token: what it is called, and its spelling
abbrev pub kind_text : Kind → List ℕ
kind_text k = kind_name k ++ quoted (token_text k)

-- the token that begins at the place
abbrev pub token_in : ℕ → List Token → Option Token
token_in place [] = None
token_in place (t ∷ ts) = if t.place == place then Some t else token_in place ts

-- what stands at a place: a token, or the end of the text
abbrev pub thing_text : Option Token → List ℕ
thing_text None = codes "the end of the text"
thing_text (Some t) = kind_text t.kind

-- the line of it
abbrev pub found_text : Option Token → List ℕ
found_text found = codes "found: " ++ thing_text found ++ codes "\n"

-- a kind of tokens: a name, a number, or a spelling
abbrev pub terminal_text : Terminal → List ℕ
terminal_text Name = codes "a name"
terminal_text Number = codes "a number"
terminal_text (Word keyword) = quoted (keyword_text keyword)
terminal_text (Mark sign) = quoted (sign_text sign)

-- another one after those in front
abbrev pub further_text : Terminal → List ℕ
further_text k = codes ", " ++ terminal_text k

-- some after those in front
abbrev pub more_text : List Terminal → List ℕ
more_text [] = []
more_text (k ∷ ks) = further_text k ++ more_text ks

-- some kinds, with a comma between each two
abbrev pub kinds_text : List Terminal → List ℕ
kinds_text [] = []
kinds_text (k ∷ ks) = terminal_text k ++ more_text ks

-- that the text may end
abbrev pub end_text : Bool → List ℕ
end_text true = codes ", or the end of the text"
end_text false = []

-- a line of kinds after words, with the end of the text last
abbrev pub listed_text : List ℕ → List Terminal → Bool → List ℕ
listed_text words kinds end = words ++ kinds_text kinds ++ end_text end ++ codes "\n"

-- the line of what could stand at a place: the kinds in the order of the grammar's, and the end of the text last
abbrev pub expected_text : List Terminal → Bool → List ℕ
expected_text kinds end = listed_text (codes "expected: ") kinds end
