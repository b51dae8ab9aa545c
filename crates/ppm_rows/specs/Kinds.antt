-- The kinds of tokens that the grammar tells apart.
use Rattle.std.specs.Prelude.{◌≡◌, ℕ, List, [], ◌∷◌, ◌++◌, map, refl, Some}
use Rattle.ppm_grammar.specs.Rows.{Listing, element}
use Rattle.ppm_text.specs.declared.token.Keyword.{Keyword}
use Rattle.ppm_text.specs.declared.token.Keyword.TheVariants as k
use Rattle.ppm_text.specs.declared.token.Sign.{Sign}
use Rattle.ppm_text.specs.declared.token.Sign.TheVariants as s
use Rattle.ppm_text.specs.declared.token.Kind.{Kind}
use Rattle.ppm_text.specs.declared.token.Kind.TheVariants as kind
use Rattle.ppm_text.specs.declared.token.Token.{Token}

-- a name, a number, one of the keywords, or one of the signs
pub data Terminal : Type 0 where
  Name : Terminal
  Number : Terminal
  Word : (keyword : Keyword) → Terminal
  Mark : (sign : Sign) → Terminal

-- what a token is to the grammar
abbrev pub terminal : Kind → Terminal
terminal (kind.Name bytes) = Name
terminal (kind.Number value) = Number
terminal (kind.Keyword word) = Word word
terminal (kind.Sign sign) = Mark sign

-- a token that is this
abbrev pub kind_like : Terminal → Kind
kind_like Name = kind.Name (97 ∷ [])
kind_like Number = kind.Number 0
kind_like (Word word) = kind.Keyword word
kind_like (Mark sign) = kind.Sign sign

-- at some place
abbrev pub sample : Terminal → Token
sample x = record { kind = kind_like x; place = 0; line = 1 }

-- is one
abbrev pub sampled : (x : Terminal) → terminal (sample x).kind ≡ x
sampled Name = refl
sampled Number = refl
sampled (Word word) = refl
sampled (Mark sign) = refl

-- the keywords
abbrev pub words : List Keyword
words =
    k.Array ∷ k.Proc ∷ k.Input ∷ k.Mut ∷ k.Ref ∷ k.Int ∷ k.Let ∷ k.If ∷ k.Else ∷ k.While ∷ k.Call ∷ k.Fork ∷ k.And ∷ k.Split ∷ k.At ∷ k.Into ∷ k.Len
    ∷ k.Each ∷ k.In ∷ k.Give ∷ []

-- where a keyword stands among the kinds
abbrev pub word_number : Keyword → ℕ
word_number k.Array = 2
word_number k.Proc = 3
word_number k.Input = 4
word_number k.Mut = 5
word_number k.Ref = 6
word_number k.Int = 7
word_number k.Let = 8
word_number k.If = 9
word_number k.Else = 10
word_number k.While = 11
word_number k.Call = 12
word_number k.Fork = 13
word_number k.And = 14
word_number k.Split = 15
word_number k.At = 16
word_number k.Into = 17
word_number k.Len = 18
word_number k.Each = 19
word_number k.In = 20
word_number k.Give = 21

-- the signs
abbrev pub marks : List Sign
marks =
    s.OpenBracket ∷ s.CloseBracket ∷ s.OpenParen ∷ s.CloseParen ∷ s.OpenBrace ∷ s.CloseBrace ∷ s.Semicolon ∷ s.Comma ∷ s.Assign ∷ s.Plus ∷ s.Minus
    ∷ s.Times ∷ s.Divide ∷ s.Remainder ∷ s.Equal ∷ s.NotEqual ∷ s.Less ∷ s.LessEqual ∷ s.Greater ∷ s.GreaterEqual ∷ s.Both ∷ s.Either ∷ []

-- where a sign stands among the kinds
abbrev pub mark_number : Sign → ℕ
mark_number s.OpenBracket = 22
mark_number s.CloseBracket = 23
mark_number s.OpenParen = 24
mark_number s.CloseParen = 25
mark_number s.OpenBrace = 26
mark_number s.CloseBrace = 27
mark_number s.Semicolon = 28
mark_number s.Comma = 29
mark_number s.Assign = 30
mark_number s.Plus = 31
mark_number s.Minus = 32
mark_number s.Times = 33
mark_number s.Divide = 34
mark_number s.Remainder = 35
mark_number s.Equal = 36
mark_number s.NotEqual = 37
mark_number s.Less = 38
mark_number s.LessEqual = 39
mark_number s.Greater = 40
mark_number s.GreaterEqual = 41
mark_number s.Both = 42
mark_number s.Either = 43

-- all kinds
abbrev pub terminals : List Terminal
terminals = Name ∷ Number ∷ map Word words ++ map Mark marks

-- where a kind stands among them
abbrev pub terminal_number : Terminal → ℕ
terminal_number Name = 0
terminal_number Number = 1
terminal_number (Word word) = word_number word
terminal_number (Mark sign) = mark_number sign

-- a keyword is listed
abbrev pub word_listed : (word : Keyword) → element terminals (word_number word) ≡ Some (Word word)
word_listed k.Array = refl
word_listed k.Proc = refl
word_listed k.Input = refl
word_listed k.Mut = refl
word_listed k.Ref = refl
word_listed k.Int = refl
word_listed k.Let = refl
word_listed k.If = refl
word_listed k.Else = refl
word_listed k.While = refl
word_listed k.Call = refl
word_listed k.Fork = refl
word_listed k.And = refl
word_listed k.Split = refl
word_listed k.At = refl
word_listed k.Into = refl
word_listed k.Len = refl
word_listed k.Each = refl
word_listed k.In = refl
word_listed k.Give = refl

-- a sign is listed
abbrev pub mark_listed : (sign : Sign) → element terminals (mark_number sign) ≡ Some (Mark sign)
mark_listed s.OpenBracket = refl
mark_listed s.CloseBracket = refl
mark_listed s.OpenParen = refl
mark_listed s.CloseParen = refl
mark_listed s.OpenBrace = refl
mark_listed s.CloseBrace = refl
mark_listed s.Semicolon = refl
mark_listed s.Comma = refl
mark_listed s.Assign = refl
mark_listed s.Plus = refl
mark_listed s.Minus = refl
mark_listed s.Times = refl
mark_listed s.Divide = refl
mark_listed s.Remainder = refl
mark_listed s.Equal = refl
mark_listed s.NotEqual = refl
mark_listed s.Less = refl
mark_listed s.LessEqual = refl
mark_listed s.Greater = refl
mark_listed s.GreaterEqual = refl
mark_listed s.Both = refl
mark_listed s.Either = refl

-- each kind is listed
abbrev pub terminal_listed : (x : Terminal) → element terminals (terminal_number x) ≡ Some x
terminal_listed Name = refl
terminal_listed Number = refl
terminal_listed (Word word) = word_listed word
terminal_listed (Mark sign) = mark_listed sign

-- the kinds
abbrev pub kinds : Listing Terminal
kinds = record { all = terminals; number = terminal_number; listed = terminal_listed }
