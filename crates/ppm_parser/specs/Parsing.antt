-- What the parser's functions answer: what the items in front stand for and what may come after them, or the fault at which they end.
use Rattle.std.specs.Prelude.{◌≡◌, ℕ, List, [], ◌∷◌}
use Rattle.ppm_grammar.specs.Rows.{Item, Take, Part}
use Rattle.ppm_grammar.specs.Reading.{ReadsState, FailsState}
use Rattle.ppm_text.specs.declared.token.Sign.{Sign}
use Rattle.ppm_text.specs.declared.token.Kind.TheVariants as kind
use Rattle.ppm_text.specs.declared.token.Token.{Token}
use Rattle.ppm_tree.specs.declared.named.Named.{Named}
use Rattle.ppm_tree.specs.Tree.{Expression}
use Rattle.ppm_rows.specs.declared.level.Level.{Level}
use Rattle.ppm_rows.specs.Kinds.{Terminal, Mark}
use Rattle.ppm_rows.specs.Values.{Value}
use Rattle.ppm_rows.specs.Values as v
use Rattle.ppm_rows.specs.Phrases.{Phrase}
use Rattle.ppm_rows.specs.Phrases as p
use Rattle.ppm_rows.specs.Making.{Make}
use Rattle.ppm_rows.specs.Language.{language, expr}
use Rattle.ppm_rows.specs.Limits.{limits}
use Rattle.ppm_parser.specs.Room.{Has}
use Rattle.ppm_parser.specs.Faults.{fault_of}
use Rattle.ppm_parser.specs.Fronts.{line_of}
use Rattle.ppm_parser.specs.declared.room.Room.{Room}
use Rattle.ppm_parser.specs.declared.stop.Stop.{Stop}

-- the items that are to come
abbrev pub Items : Type 0
Items = List (Item Terminal Phrase)

-- within so many more openings and from this room, the items in front stand for these values and leave that room in front of the rest
abbrev pub Parses : ℕ → Room → Items → List Token → List Value → Room → List Token → Type 0
Parses depth room xs ts vs room' rest = ReadsState language limits Has depth room xs ts vs room' rest

-- within so many more openings and from this room, the tokens end so where the items are to come
pub record Stops (depth : ℕ) (room : Room) (xs : Items) (ts : List Token) (e : Stop) : Type 0 where
  pub fails : FailsState language limits Has depth room xs ts (fault_of e)

-- the items in front stand for values with the property
pub record ParsesTo (depth : ℕ) (room : Room) (xs : Items) (ts : List Token) (Is : List Value → Type 0) (room' : Room) (rest : List Token) : Type 0 where
  pub values : List Value
  pub parses : Parses depth room xs ts values room' rest
  pub is : Is values

-- after whatever stands first, the values make this
abbrev pub MakesBehind : Make → Value → List Value → Type 0
MakesBehind make made vs = (w : Value) → make (w ∷ vs) ≡ made

-- after a token in the line, the values make this
abbrev pub MakesInLine : Make → ℕ → Value → List Value → Type 0
MakesInLine make line made vs = (t : Token) → t.line ≡ line → make (v.Lexed t ∷ vs) ≡ made

-- the part in front stands for the expression
abbrev pub ParsesExpression : ℕ → Room → Phrase → List Token → Expression → Room → List Token → Type 0
ParsesExpression depth room n ts e room' rest = Parses depth room (Part n ∷ []) ts (v.Expr (line_of ts) e ∷ []) room' rest

-- after a first operand, what goes on from it makes the expression
pub record ParsesFrom (depth : ℕ) (room : Room) (level : Level) (first : Expression) (ts : List Token) (e : Expression) (room' : Room) (rest : List Token)
    : Type 0 where
  pub function : Expression → Expression
  pub parses : Parses depth room (Part (p.FromOperand level) ∷ []) ts (v.FromOperand function ∷ []) room' rest
  pub makes : function first ≡ e

-- a whole expression up to the sign is in front
pub record ParsesUpTo (depth : ℕ) (room : Room) (sign : Sign) (ts : List Token) (e : Expression) (room' : Room) (rest : List Token) : Type 0 where
  pub end : Token
  pub parses : Parses depth room (expr ∷ Take (Mark sign) ∷ []) ts (v.Expr (line_of ts) e ∷ v.Lexed end ∷ []) room' rest

-- the token is this name at the place
pub record IsNameAt (t : Token) (x : Named) (place : ℕ) : Type 0 where
  pub is : t.kind ≡ kind.Name x.name
  pub line : t.line ≡ x.line
  pub at : t.place ≡ place

-- with the name in front of them, the tokens begin with an operand
abbrev pub ParsesNamed : ℕ → Room → Named → ℕ → List Token → Expression → Room → List Token → Type 0
ParsesNamed depth room x place ts e room' rest =
    (t : Token) → IsNameAt t x place → Parses depth room (Part p.Operand ∷ []) (t ∷ ts) (v.Expr x.line e ∷ []) room' rest

-- or stop
abbrev pub StopsNamed : ℕ → Room → Named → ℕ → List Token → Stop → Type 0
StopsNamed depth room x place ts e = (t : Token) → IsNameAt t x place → Stops depth room (Part p.Operand ∷ []) (t ∷ ts) e

-- the part is in front, and the sign after it
pub record ParsesClosed (depth : ℕ) (room : Room) (n : Phrase) (sign : Sign) (ts : List Token) (made : Value) (room' : Room) (rest : List Token) : Type 0 where
  pub end : Token
  pub parses : Parses depth room (Part n ∷ Take (Mark sign) ∷ []) ts (made ∷ v.Lexed end ∷ []) room' rest

-- the token in front, if there is one, begins no argument, whatever the room
abbrev pub StopsFirst : ℕ → List Token → Stop → Type 0
StopsFirst depth ts e = (room : Room) → Stops depth room (Part p.Argument ∷ []) ts e
