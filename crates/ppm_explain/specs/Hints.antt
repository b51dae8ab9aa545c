-- Hints: what is said of a token that cannot come, by the token and by what could come in its place.
use Rattle.std.specs.Prelude.{◌&&◌, not, if◌then◌else◌, Bool, true, false, List, [], ◌∷◌, ℕ, codes, Option, Some, None}
use Rattle.ppm_text.specs.declared.token.Keyword.{Keyword}
use Rattle.ppm_text.specs.declared.token.Keyword.TheVariants as k
use Rattle.ppm_text.specs.declared.token.Sign.{Sign}
use Rattle.ppm_text.specs.declared.token.Sign.TheVariants as s
use Rattle.ppm_text.specs.declared.token.Kind.{Kind}
use Rattle.ppm_text.specs.declared.token.Kind.TheVariants as kind
use Rattle.ppm_text.specs.declared.token.Token.{Token}
use Rattle.ppm_grammar.specs.Predictive.{same_kind}
use Rattle.ppm_rows.specs.Kinds.{Terminal, Name, Word, Mark}
use Rattle.ppm_rows.specs.Language.{language}
use Rattle.ppm_printer.specs.Spelled.{keyword_text}
use Rattle.ppm_explain.specs.Words.{four_text}

-- whether a kind is one of those that could come
abbrev pub comes : Terminal → List Terminal → Bool
comes wanted [] = false
comes wanted (x ∷ xs) = if same_kind language x wanted then true else comes wanted xs

-- whether a name alone stands in front, as where an assignment begins
abbrev pub is_behind_name : List Terminal → Bool
is_behind_name kinds = comes (Mark s.Assign) kinds && comes (Mark s.OpenBracket) kinds

-- whether a body has to end: its `give` stands in front
abbrev pub is_behind_give : List Terminal → Bool
is_behind_give kinds = comes (Mark s.CloseBrace) kinds && not (comes Name kinds)

-- of a place, by what could come there
abbrev pub place_note : List Terminal → List ℕ
place_note kinds =
    if comes (Mark s.Semicolon) kinds then codes "note: a `;` may be missing in front of this\n"
    else if is_behind_name kinds then codes "note: the word in front of this is none of the language, so it begins an assignment\n"
    else if comes (Word k.Array) kinds then codes "note: only `array`, `proc` and `input` stand outside of procedures; one `}` in front of this may be too many\n"
    else if is_behind_give kinds then codes "note: `give` comes once, as the last of a procedure\n"
    else if comes (Mark s.OpenBrace) kinds then codes "note: a block comes here, in `{` and `}`; for `else if` write `else { if .. }`\n"
    else []

-- what is said of some words where a name could come, to the end of the line
abbrev pub word_advice : Keyword → List ℕ
word_advice k.Call = codes "; `x = call f();` takes the value of a call, where `x` is declared\n"
word_advice k.Array = codes "; a block that is open ends with `}`\n"
word_advice k.Proc = codes "; a block that is open ends with `}`\n"
word_advice k.Input = codes "; a block that is open ends with `}`\n"
word_advice k.Int = codes "; a name is declared by `let x = 0;`\n"
word_advice k.Give = codes "; it comes once, as the last of a procedure\n"
word_advice k.Let = codes "\n"
word_advice k.Mut = codes "\n"
word_advice k.Ref = codes "\n"
word_advice k.If = codes "\n"
word_advice k.Else = codes "\n"
word_advice k.While = codes "\n"
word_advice k.Fork = codes "\n"
word_advice k.And = codes "\n"
word_advice k.Split = codes "\n"
word_advice k.At = codes "\n"
word_advice k.Into = codes "\n"
word_advice k.Len = codes "\n"
word_advice k.Each = codes "\n"
word_advice k.In = codes "\n"

-- of a word where a name could come
abbrev pub no_name : Keyword → List ℕ
no_name w = four_text (codes "note: `") (keyword_text w) (codes "` is a word of the language, and no name") (word_advice w)

-- of a word
abbrev pub word_hint : List Terminal → Keyword → List ℕ
word_hint kinds w = if comes Name kinds then no_name w else place_note kinds

-- of `(` where a statement begins, or after an operand
abbrev pub call_note : List Terminal → List ℕ
call_note kinds =
    if is_behind_name kinds then codes "note: a call stands alone: `call f();`, `x = call f();`, or `fork f() and g();`\n"
    else if comes (Mark s.Plus) kinds then codes "note: a call stands alone: `call f();`, `x = call f();`, or `fork f() and g();`\n"
    else []

-- of `+`, `-`, `*` and `%` after what is assigned
abbrev pub change_note : List Terminal → List ℕ
change_note kinds = if comes (Mark s.Assign) kinds then codes "note: a name is changed by `x = x + 1;`\n" else []

-- of `=` where `==` could come
abbrev pub assign_note : List Terminal → List ℕ
assign_note kinds = if comes (Mark s.Equal) kinds then codes "note: `==` compares, and `=` gives a value\n" else []

-- of a comparison
abbrev pub comparison_note : List Terminal → List ℕ
comparison_note kinds =
    if comes (Mark s.Assign) kinds then codes "note: `=` gives a value, and `==` compares\n"
    else if comes (Mark s.Plus) kinds then codes "note: at most one comparison stands in an expression without brackets\n"
    else []

-- of `;`
abbrev pub semicolon_note : List Terminal → List ℕ
semicolon_note kinds =
    if is_behind_name kinds then place_note kinds
    else if comes (Word k.Let) kinds then codes "note: no `;` stands after a block, nor after another `;`\n"
    else if comes (Word k.Array) kinds then codes "note: no `;` stands after a procedure, nor after another `;`\n"
    else []

-- of a sign
abbrev pub sign_hint : List Terminal → Sign → List ℕ
sign_hint kinds s.OpenParen = call_note kinds
sign_hint kinds s.Divide = codes "note: a comment begins with `#`\n"
sign_hint kinds s.Plus = change_note kinds
sign_hint kinds s.Minus = change_note kinds
sign_hint kinds s.Times = change_note kinds
sign_hint kinds s.Remainder = change_note kinds
sign_hint kinds s.OpenBrace = place_note kinds
sign_hint kinds s.CloseBrace = place_note kinds
sign_hint kinds s.Semicolon = semicolon_note kinds
sign_hint kinds s.Assign = assign_note kinds
sign_hint kinds s.Equal = comparison_note kinds
sign_hint kinds s.NotEqual = comparison_note kinds
sign_hint kinds s.Less = comparison_note kinds
sign_hint kinds s.LessEqual = comparison_note kinds
sign_hint kinds s.Greater = comparison_note kinds
sign_hint kinds s.GreaterEqual = comparison_note kinds
sign_hint kinds s.OpenBracket = []
sign_hint kinds s.CloseBracket = []
sign_hint kinds s.CloseParen = []
sign_hint kinds s.Comma = []
sign_hint kinds s.Both = []
sign_hint kinds s.Either = []

-- of a token that cannot come
abbrev pub kind_hint : List Terminal → Kind → List ℕ
kind_hint kinds (kind.Name bytes) = place_note kinds
kind_hint kinds (kind.Number value) = place_note kinds
kind_hint kinds (kind.Keyword keyword) = word_hint kinds keyword
kind_hint kinds (kind.Sign sign) = sign_hint kinds sign

-- of what stands at a place
abbrev pub hint_text : List Terminal → Option Token → List ℕ
hint_text kinds None = []
hint_text kinds (Some t) = kind_hint kinds t.kind
