-- What stands in front of some tokens, or does not.
use Rattle.std.specs.Prelude.{◌≡◌, ◌≤◌, ◌≢◌, ◌⊎◌, ℕ, ◌<◌, ℤ, pos, Bool, true, false, List, [], ◌∷◌, Some, None}
use Rattle.ppm_grammar.specs.Predictive.{starts}
use Rattle.ppm_words.specs.Limits.{value_bound}
use Rattle.ppm_text.specs.declared.token.Keyword.{Keyword}
use Rattle.ppm_text.specs.declared.token.Keyword.TheVariants as k
use Rattle.ppm_text.specs.declared.token.Sign.{Sign}
use Rattle.ppm_text.specs.declared.token.Sign.TheVariants as s
use Rattle.ppm_text.specs.declared.token.Kind.{Kind}
use Rattle.ppm_text.specs.declared.token.Kind.TheVariants as kind
use Rattle.ppm_text.specs.declared.token.Token.{Token}
use Rattle.ppm_tree.specs.declared.mode.Mode.{Mode}
use Rattle.ppm_tree.specs.declared.mode.Mode.TheVariants as mode
use Rattle.ppm_tree.specs.declared.named.Named.{Named}
use Rattle.ppm_tree.specs.declared.operator.Operator.{Operator}
use Rattle.ppm_rows.specs.declared.level.Level.{Level}
use Rattle.ppm_rows.specs.declared.level.Level.TheVariants as level
use Rattle.ppm_rows.specs.Operations.{operator_at}
use Rattle.ppm_rows.specs.Kinds.{Terminal, Name, Number, Word, terminal}
use Rattle.ppm_rows.specs.Phrases.{Phrase}
use Rattle.ppm_rows.specs.Language.{language}
use Rattle.ppm_parser.specs.declared.stop.Stop.{Stop}
use Rattle.ppm_parser.specs.declared.stop.Stop.TheVariants as stop

-- the token in front is of the kind
pub record InFront (x : Terminal) (ts : List Token) (t : Token) (rest : List Token) : Type 0 where
  pub shape : ts ≡ t ∷ rest
  pub is : terminal t.kind ≡ x

-- a token of the kind is in front
pub record HasFront (x : Terminal) (ts rest : List Token) : Type 0 where
  pub token : Token
  pub front : InFront x ts token rest

-- a token of the kind is in front, at the place
pub record HasAt (x : Terminal) (ts : List Token) (place : ℕ) (rest : List Token) : Type 0 where
  pub token : Token
  pub front : InFront x ts token rest
  pub at : token.place ≡ place

-- no token of the kind is in front: the tokens end, or another is there
abbrev pub Misses : Terminal → List Token → Stop → Type 0
Misses x [] e = e ≡ stop.Ended
Misses x (t ∷ ts) e = (e ≡ stop.Expected t.place) × (terminal t.kind ≡ x → ⊥)

-- no name is in front, or memory was refused, of which nothing is said
abbrev pub MissesName : List Token → Stop → Type 0
MissesName ts e = (e ≡ stop.NoMemory) ⊎ Misses Name ts e

-- no number is in front
abbrev pub MissesNumber : List Token → Stop → Type 0
MissesNumber ts e = Misses Number ts e

-- the keyword of a mode
abbrev pub word_of : Mode → Keyword
word_of mode.Mut = k.Mut
word_of mode.Ref = k.Ref
word_of mode.Int = k.Int

-- the keyword of a mode in front, at the place
pub record HasMode (ts : List Token) (m : Mode) (place : ℕ) (rest : List Token) : Type 0 where
  pub token : Token
  pub shape : ts ≡ token ∷ rest
  pub is : token.kind ≡ kind.Keyword (word_of m)
  pub at : token.place ≡ place

-- no keyword of a mode is in front
abbrev pub MissesMode : List Token → Stop → Type 0
MissesMode [] e = e ≡ stop.Ended
MissesMode (t ∷ ts) e = (e ≡ stop.Expected t.place) × ((m : Mode) → t.kind ≢ kind.Keyword (word_of m))

-- the name in front
pub record HasName (ts : List Token) (x : Named) (rest : List Token) : Type 0 where
  pub token : Token
  pub shape : ts ≡ token ∷ rest
  pub is : token.kind ≡ kind.Name x.name
  pub line : token.line ≡ x.line

-- the number in front
pub record HasNumber (ts : List Token) (n : ℕ) (place : ℕ) (rest : List Token) : Type 0 where
  pub token : Token
  pub shape : ts ≡ token ∷ rest
  pub is : token.kind ≡ kind.Number n
  pub at : token.place ≡ place

-- the literal in front, which is a value of the language
pub record HasLiteral (ts : List Token) (z : ℤ) (rest : List Token) : Type 0 where
  pub token : Token
  pub number : ℕ
  pub shape : ts ≡ token ∷ rest
  pub is : token.kind ≡ kind.Number number
  pub value : z ≡ pos number
  pub small : number < value_bound

-- the operator of the level in front
pub record HasOperator (level : Level) (ts : List Token) (o : Operator) (place line : ℕ) (rest : List Token) : Type 0 where
  pub token : Token
  pub sign : Sign
  pub shape : ts ≡ token ∷ rest
  pub is : token.kind ≡ kind.Sign sign
  pub operator : operator_at level sign ≡ Some o
  pub at : token.place ≡ place
  pub in_line : token.line ≡ line

-- an operation of the level comes once
abbrev pub comes_once : Level → Bool
comes_once level.Comparison = true
comes_once _ = false

-- no operator of the level is in front
abbrev pub NoOperator : Level → List Token → Type 0
NoOperator level [] = Unit {0}
NoOperator level (t ∷ ts) = (sign : Sign) → t.kind ≡ kind.Sign sign → operator_at level sign ≡ None

-- no operator of the level is in front, nor of one that binds more
abbrev pub NoneWithin : Level → List Token → Type 0
NoneWithin level.Product ts = NoOperator level.Product ts
NoneWithin level.Sum ts = NoOperator level.Sum ts × NoOperator level.Product ts
NoneWithin level.Comparison ts = NoOperator level.Comparison ts × NoOperator level.Sum ts × NoOperator level.Product ts
NoneWithin level.Both ts = NoOperator level.Both ts × NoOperator level.Comparison ts × NoOperator level.Sum ts × NoOperator level.Product ts
NoneWithin level.Either ts = NoOperator level.Either ts × NoOperator level.Both ts × NoOperator level.Comparison ts × NoOperator level.Sum ts × NoOperator level.Product ts

-- the line of the first token
abbrev pub line_of : List Token → ℕ
line_of [] = 1
line_of (t ∷ ts) = t.line

-- a token that begins an expression
abbrev pub BeginsExpression : Kind → Type 0
BeginsExpression (kind.Name x) = Unit {0}
BeginsExpression (kind.Number n) = Unit {0}
BeginsExpression (kind.Keyword k.Len) = Unit {0}
BeginsExpression (kind.Sign s.Minus) = Unit {0}
BeginsExpression (kind.Sign s.OpenParen) = Unit {0}
BeginsExpression _ = ⊥

-- how many openings it opens
abbrev pub opened_by : Kind → ℕ
opened_by (kind.Sign sign) = 1
opened_by _ = 0

-- a token that begins an expression is in front, and its openings may be open
pub record HasExpression (depth : ℕ) (ts : List Token) (place line : ℕ) : Type 0 where
  pub token : Token
  pub rest : List Token
  pub shape : ts ≡ token ∷ rest
  pub begins : BeginsExpression token.kind
  pub within : opened_by token.kind ≤ depth
  pub at : token.place ≡ place
  pub in_line : token.line ≡ line

-- a token of the kind can begin the part
abbrev pub begins : Phrase → Kind → Bool
begins n x = starts language n (terminal x)

-- the token in front can begin the part
abbrev pub starts_at : Phrase → List Token → Bool
starts_at n [] = false
starts_at n (t ∷ ts) = begins n t.kind

-- no token of the kind is in front
abbrev pub IsNotFront : Terminal → List Token → Type 0
IsNotFront x [] = Unit {0}
IsNotFront x (t ∷ ts) = terminal t.kind ≢ x

-- the keyword of what a body gives is in front, in the line
pub record HasGive (ts : List Token) (line : ℕ) (rest : List Token) : Type 0 where
  pub token : Token
  pub shape : ts ≡ token ∷ rest
  pub is : token.kind ≡ kind.Keyword k.Give
  pub in_line : token.line ≡ line

-- it is not
abbrev pub NoGive : List Token → Type 0
NoGive ts = IsNotFront (Word k.Give) ts
