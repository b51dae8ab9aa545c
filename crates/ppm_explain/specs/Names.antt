-- What a text says of names: where they are declared, where they stood before, and the procedure around a line.
use Rattle.std.specs.Prelude.{ℕ, ◌-◌, ◌==◌, ◌&&◌, nat_lt, nat_le, if◌then◌else◌, Bool, true, false, List, [], ◌∷◌, ◌++◌, codes, decimal, Option, Some, None}
use Rattle.std.specs.Str.{bytes_eq}
use Rattle.ppm_text.specs.declared.token.Keyword.{Keyword}
use Rattle.ppm_text.specs.declared.token.Keyword.TheVariants as k
use Rattle.ppm_text.specs.declared.token.Sign.{Sign}
use Rattle.ppm_text.specs.declared.token.Sign.TheVariants as s
use Rattle.ppm_text.specs.declared.token.Kind.{Kind}
use Rattle.ppm_text.specs.declared.token.Kind.TheVariants as kind
use Rattle.ppm_text.specs.declared.token.Token.{Token}
use Rattle.ppm_printer.specs.Spelled.{keyword_text}
use Rattle.ppm_explain.specs.Words.{counted_text, located_text}
use Rattle.ppm_explain.specs.declared.declaring.Before.{Before}
use Rattle.ppm_explain.specs.declared.declaring.Before.TheVariants as before

-- whether the word declares the name after it
abbrev pub declares : Keyword → Bool
declares k.Array = true
declares k.Proc = true
declares k.Mut = true
declares k.Ref = true
declares k.Int = true
declares k.Let = true
declares k.Into = true
declares k.Each = true
declares k.Input = false
declares k.If = false
declares k.Else = false
declares k.While = false
declares k.Call = false
declares k.Fork = false
declares k.And = false
declares k.Split = false
declares k.At = false
declares k.Len = false
declares k.In = false
declares k.Give = false

-- what stands in front of the token after a word
abbrev pub after_word : Keyword → Before
after_word w = if declares w then before.Word w else before.Other

-- after a name
abbrev pub after_name : Before → Before
after_name before.Other = before.Other
after_name (before.Word w) = before.Named w
after_name (before.Named w) = before.Other

-- after a comma: a name with a comma is followed by a second one of the same word, as with `into l, r` and `each i, x`
abbrev pub after_comma : Before → Before
after_comma before.Other = before.Other
after_comma (before.Word w) = before.Other
after_comma (before.Named w) = before.Word w

-- whether the sign is a comma
abbrev pub is_comma : Sign → Bool
is_comma s.Comma = true
is_comma s.OpenBracket = false
is_comma s.CloseBracket = false
is_comma s.OpenParen = false
is_comma s.CloseParen = false
is_comma s.OpenBrace = false
is_comma s.CloseBrace = false
is_comma s.Semicolon = false
is_comma s.Assign = false
is_comma s.Plus = false
is_comma s.Minus = false
is_comma s.Times = false
is_comma s.Divide = false
is_comma s.Remainder = false
is_comma s.Equal = false
is_comma s.NotEqual = false
is_comma s.Less = false
is_comma s.LessEqual = false
is_comma s.Greater = false
is_comma s.GreaterEqual = false
is_comma s.Both = false
is_comma s.Either = false

-- after a token
abbrev pub after_kind : Before → Kind → Before
after_kind b (kind.Keyword w) = after_word w
after_kind b (kind.Name bytes) = after_name b
after_kind b (kind.Number value) = before.Other
after_kind b (kind.Sign sign) = if is_comma sign then after_comma b else before.Other

-- whether the token is this name
abbrev pub is_name : List ℕ → Kind → Bool
is_name x (kind.Name bytes) = bytes_eq bytes x
is_name x (kind.Number value) = false
is_name x (kind.Keyword w) = false
is_name x (kind.Sign sign) = false

-- the word that declares a name, and its line
abbrev pub declaration_text : Before → ℕ → List ℕ
declaration_text before.Other line = []
declaration_text (before.Word w) line = codes ", " ++ keyword_text w ++ codes " in line " ++ decimal line
declaration_text (before.Named w) line = []

-- what declares a token, if it is the name
abbrev pub declared_by : Before → List ℕ → Token → List ℕ
declared_by b x t = if is_name x t.kind then declaration_text b t.line else []

-- the declarations of a name in these tokens
abbrev pub declared_from : Before → List ℕ → List Token → List ℕ
declared_from b x [] = []
declared_from b x (t ∷ ts) = declared_by b x t ++ declared_from (after_kind b t.kind) x ts

-- that a name has none
abbrev pub or_nowhere : List ℕ → List ℕ
or_nowhere [] = codes ", declared nowhere"
or_nowhere (b ∷ bs) = b ∷ bs

-- the line of a token, if it is the name and stands above the given line; else that of before
abbrev pub stood_with : ℕ → List ℕ → ℕ → Token → ℕ
stood_with n x line t = if is_name x t.kind && nat_lt t.line line then t.line else n

-- the line above the given one in which the name stands last; where it stands in none, the first of these
abbrev pub stood_from : ℕ → List ℕ → ℕ → List Token → ℕ
stood_from n x line [] = n
stood_from n x line (t ∷ ts) = stood_from (stood_with n x line t) x line ts

-- that it stood in this line
abbrev pub before_text : ℕ → List ℕ
before_text n = counted_text (codes "; before in line ") n

-- if it did in one
abbrev pub stood_text : ℕ → List ℕ
stood_text n = if n == 0 then [] else before_text n

-- a name of the line: how it is declared, and where it stood before
abbrev pub name_text : List Token → ℕ → List ℕ → List ℕ
name_text all line x =
    codes "name: `" ++ x ++ codes "`" ++ or_nowhere (declared_from before.Other x all) ++ stood_text (stood_from 0 x line all) ++ codes "\n"

-- whether the token is the name, in this line
abbrev pub stands_there : List ℕ → ℕ → Token → Bool
stands_there x line t = is_name x t.kind && t.line == line

-- whether the name stands in the line
abbrev pub stands_in : List ℕ → ℕ → List Token → Bool
stands_in x line [] = false
stands_in x line (t ∷ ts) = if stands_there x line t then true else stands_in x line ts

-- what is said of a name that does not stand in the line after its token
abbrev pub last_text : List Token → ℕ → List ℕ → List Token → List ℕ
last_text all line x behind = if stands_in x line behind then [] else name_text all line x

-- what is said of a token of the line, if it is a name that does not stand in the line after it
abbrev pub mentioned : List Token → ℕ → Kind → List Token → List ℕ
mentioned all line (kind.Name x) behind = last_text all line x behind
mentioned all line (kind.Number value) behind = []
mentioned all line (kind.Keyword w) behind = []
mentioned all line (kind.Sign sign) behind = []

-- what is said of a token, where it stands in the line
abbrev pub mention_text : List Token → ℕ → Token → List Token → List ℕ
mention_text all line t behind = if t.line == line then mentioned all line t.kind behind else []

-- what is said of a token alone, if it is a name
abbrev pub named_text : List Token → ℕ → Kind → List ℕ
named_text all line (kind.Name x) = name_text all line x
named_text all line (kind.Number value) = []
named_text all line (kind.Keyword w) = []
named_text all line (kind.Sign sign) = []

-- the names of a line, each once
abbrev pub names_from : List Token → ℕ → List Token → List ℕ
names_from all line [] = []
names_from all line (t ∷ ts) = mention_text all line t ts ++ names_from all line ts

abbrev pub names_text : List Token → ℕ → List ℕ
names_text all line = names_from all line all

-- whether it is the word in front of the name of a procedure
abbrev pub is_proc : Keyword → Bool
is_proc k.Proc = true
is_proc k.Array = false
is_proc k.Input = false
is_proc k.Mut = false
is_proc k.Ref = false
is_proc k.Int = false
is_proc k.Let = false
is_proc k.If = false
is_proc k.Else = false
is_proc k.While = false
is_proc k.Call = false
is_proc k.Fork = false
is_proc k.And = false
is_proc k.Split = false
is_proc k.At = false
is_proc k.Into = false
is_proc k.Len = false
is_proc k.Each = false
is_proc k.In = false
is_proc k.Give = false

-- whether a procedure is declared by the token after it
abbrev pub heads : Before → Bool
heads before.Other = false
heads (before.Word w) = is_proc w
heads (before.Named w) = false

-- whether it is the name of a procedure, down to the line
abbrev pub is_above : Before → ℕ → Token → Bool
is_above b line t = heads b && nat_le t.line line

-- the last name of a procedure down to the line
abbrev pub heading_above : Option Token → Before → ℕ → List Token → Option Token
heading_above found b line [] = found
heading_above found b line (t ∷ ts) =
    heading_above (if is_above b line t then Some t else found) (after_kind b t.kind) line ts

-- whether it is the name of a procedure, down to the place
abbrev pub is_before : Before → ℕ → Token → Bool
is_before b place t = heads b && nat_le t.place place

-- the last name of a procedure down to the place
abbrev pub heading_before : Option Token → Before → ℕ → List Token → Option Token
heading_before found b place [] = found
heading_before found b place (t ∷ ts) =
    heading_before (if is_before b place t then Some t else found) (after_kind b t.kind) place ts

-- whether it is the name of the procedure with no other in front
abbrev pub is_here : Before → ℕ → Bool
is_here b n = heads b && n == 0

-- how many stand in front of the wanted one after this token
abbrev pub left_ahead : Before → ℕ → ℕ
left_ahead b n = if heads b then n - 1 else n

-- the name of the procedure with this number, from 0
abbrev pub heading_at : Before → ℕ → List Token → Option Token
heading_at b n [] = None
heading_at b n (t ∷ ts) =
    if is_here b n then Some t else heading_at (after_kind b t.kind) (left_ahead b n) ts

-- a procedure by its name, and the line of that
abbrev pub procedure_text : Option Token → List ℕ
procedure_text None = []
procedure_text (Some t) = located_text (codes "procedure: `") t.kind (codes "` in line ") t.line
