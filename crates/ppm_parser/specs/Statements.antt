-- What the parser's functions answer of statements: the items after the first token of each.
use Rattle.std.specs.Prelude.{◌≡◌, ◌<◌, ℕ, List, [], ◌∷◌, length}
use Rattle.ppm_grammar.specs.Rows.{Part}
use Rattle.ppm_text.specs.declared.token.Keyword.TheVariants as k
use Rattle.ppm_text.specs.declared.token.Sign.TheVariants as s
use Rattle.ppm_text.specs.declared.token.Token.{Token}
use Rattle.ppm_tree.specs.declared.named.Named.{Named}
use Rattle.ppm_tree.specs.declared.tree.Argument.{Argument}
use Rattle.ppm_tree.specs.Tree.{Statement, expression_of}
use Rattle.ppm_tree.specs.Tree as tree
use Rattle.ppm_rows.specs.Values as v
use Rattle.ppm_rows.specs.Phrases.{Phrase}
use Rattle.ppm_rows.specs.Phrases as p
use Rattle.ppm_rows.specs.Making as make
use Rattle.ppm_rows.specs.Language.{name, word, sign, expr}
use Rattle.ppm_parser.specs.declared.room.Room.{Room}
use Rattle.ppm_parser.specs.Parsing.{Items, Parses, ParsesTo, MakesBehind, MakesInLine}

-- the argument that a declared type holds
abbrev pub argument_of : Argument → tree.Argument
argument_of a = record { line = a.line; value = expression_of a.value }

-- what stands after the first token of each statement
abbrev pub local_items : Items
local_items = name ∷ sign s.Assign ∷ expr ∷ sign s.Semicolon ∷ []

abbrev pub choice_items : Items
choice_items = expr ∷ Part p.Block ∷ Part p.Else ∷ []

abbrev pub loop_items : Items
loop_items = expr ∷ Part p.Block ∷ []

abbrev pub call_items : Items
call_items = Part p.Call ∷ sign s.Semicolon ∷ []

abbrev pub fork_items : Items
fork_items = Part p.Side ∷ word k.And ∷ Part p.Side ∷ sign s.Semicolon ∷ []

abbrev pub split_items : Items
split_items = name ∷ word k.At ∷ expr ∷ word k.Into ∷ name ∷ sign s.Comma ∷ name ∷ Part p.Block ∷ []

abbrev pub each_items : Items
each_items = name ∷ sign s.Comma ∷ name ∷ word k.In ∷ name ∷ Part p.Block ∷ []

-- these are in front, and make the statement
abbrev pub ParsesLocal : ℕ → Room → List Token → Statement → Room → List Token → Type 0
ParsesLocal depth room ts x room' rest = ParsesTo depth room local_items ts (MakesBehind make.local (v.OneStatement x)) room' rest

abbrev pub ParsesChoice : ℕ → Room → List Token → Statement → Room → List Token → Type 0
ParsesChoice depth room ts x room' rest = ParsesTo depth room choice_items ts (MakesBehind make.choice (v.OneStatement x)) room' rest

abbrev pub ParsesLoop : ℕ → Room → List Token → Statement → Room → List Token → Type 0
ParsesLoop depth room ts x room' rest = ParsesTo depth room loop_items ts (MakesBehind make.loop (v.OneStatement x)) room' rest

abbrev pub ParsesCall : ℕ → Room → List Token → Statement → Room → List Token → Type 0
ParsesCall depth room ts x room' rest = ParsesTo depth room call_items ts (MakesBehind make.call (v.OneStatement x)) room' rest

abbrev pub ParsesFork : ℕ → Room → List Token → Statement → Room → List Token → Type 0
ParsesFork depth room ts x room' rest = ParsesTo depth room fork_items ts (MakesBehind make.fork (v.OneStatement x)) room' rest

abbrev pub ParsesSplit : ℕ → Room → ℕ → List Token → Statement → Room → List Token → Type 0
ParsesSplit depth room line ts x room' rest = ParsesTo depth room split_items ts (MakesInLine make.split line (v.OneStatement x)) room' rest

abbrev pub ParsesEach : ℕ → Room → List Token → Statement → Room → List Token → Type 0
ParsesEach depth room ts x room' rest = ParsesTo depth room each_items ts (MakesBehind make.each (v.OneStatement x)) room' rest

-- the part is in front, and with the name of a target it makes the statement
pub record ParsesAfterName (n : Phrase) (depth : ℕ) (room : Room) (target : Named) (ts : List Token) (x : Statement) (room' : Room) (rest : List Token)
    : Type 0 where
  pub function : Named → Statement
  pub parses : Parses depth room (Part n ∷ []) ts (v.FromName function ∷ []) room' rest
  pub makes : function target ≡ x

-- a statement is in front, of at least one token
pub record ParsesStatement (depth : ℕ) (room : Room) (ts : List Token) (x : Statement) (room' : Room) (rest : List Token) : Type 0 where
  pub parses : Parses depth room (Part p.Statement ∷ []) ts (v.OneStatement x ∷ []) room' rest
  pub smaller : length rest < length ts
