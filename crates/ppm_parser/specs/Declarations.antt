-- What the parser's functions answer of declarations.
use Rattle.std.specs.Prelude.{◌≡◌, ℕ, ℤ, List, [], ◌∷◌, ◌++◌, map, Some}
use Rattle.ppm_grammar.specs.Rows.{Part}
use Rattle.ppm_grammar.specs.Faults.{Fault}
use Rattle.ppm_text.specs.declared.token.Sign.TheVariants as s
use Rattle.ppm_text.specs.declared.token.Token.{Token}
use Rattle.ppm_tree.specs.declared.tree.Array.{Array}
use Rattle.ppm_tree.specs.declared.tree.ArrayInput.{ArrayInput}
use Rattle.ppm_tree.specs.declared.tree.Proc.{Proc}
use Rattle.ppm_tree.specs.Limits.{depth_limit, IsInputValue}
use Rattle.ppm_tree.specs.Tree.{ProgramTree, procedure_of}
use Rattle.ppm_rows.specs.Values as v
use Rattle.ppm_rows.specs.Phrases as p
use Rattle.ppm_rows.specs.Making as make
use Rattle.ppm_rows.specs.Language.{name, sign}
use Rattle.ppm_rows.specs.Correct.{HasFault}
use Rattle.ppm_parser.specs.declared.declaration.Declaration.{Declaration}
use Rattle.ppm_parser.specs.declared.declaration.Declaration.TheVariants as declared
use Rattle.ppm_parser.specs.declared.parsing.Declared.{Declared}
use Rattle.ppm_parser.specs.declared.room.Room.{Room}
use Rattle.ppm_parser.specs.declared.stop.Stop.{Stop}
use Rattle.ppm_parser.specs.Faults.{fault_of}
use Rattle.ppm_parser.specs.Parsing.{Items, Parses, Stops, ParsesTo, MakesBehind}

-- the declaration that a declared type holds
abbrev pub declaration_of : Declaration → v.Declaration
declaration_of (declared.Array a) = v.AnArray a
declaration_of (declared.Procedure p) = v.AProcedure (procedure_of p)
declaration_of (declared.Input i) = v.AnInput i

-- what is declared
abbrev pub declared_tree : Declared → ProgramTree
declared_tree d = record { arrays = d.arrays.items; procedures = map procedure_of d.procedures.items; inputs = d.inputs.items }

-- with one thing more after it
abbrev pub with_declaration : ProgramTree → v.Declaration → ProgramTree
with_declaration t (v.AnArray a) = record { arrays = t.arrays ++ a ∷ []; procedures = t.procedures; inputs = t.inputs }
with_declaration t (v.AProcedure p) = record { arrays = t.arrays; procedures = t.procedures ++ p ∷ []; inputs = t.inputs }
with_declaration t (v.AnInput i) = record { arrays = t.arrays; procedures = t.procedures; inputs = t.inputs ++ i ∷ [] }

-- what stands after the keyword of each declaration
abbrev pub array_items : Items
array_items = name ∷ Part p.Length ∷ sign s.Semicolon ∷ []

abbrev pub procedure_items : Items
procedure_items = name ∷ Part p.ParameterList ∷ Part p.Body ∷ []

abbrev pub input_items : Items
input_items = name ∷ sign s.Assign ∷ Part p.Integer ∷ Part p.MoreIntegers ∷ sign s.Semicolon ∷ []

-- these are in front, and make the declaration
abbrev pub ParsesArray : Room → List Token → Array → Room → List Token → Type 0
ParsesArray room ts a room' rest = ParsesTo depth_limit room array_items ts (MakesBehind make.array (v.Declares (v.AnArray a))) room' rest

abbrev pub ParsesProcedure : Room → List Token → Proc → Room → List Token → Type 0
ParsesProcedure room ts x room' rest =
    ParsesTo depth_limit room procedure_items ts (MakesBehind make.procedure (v.Declares (v.AProcedure (procedure_of x)))) room' rest

-- an input, whatever the room
abbrev pub ParsesInput : List Token → ArrayInput → List Token → Type 0
ParsesInput ts i rest =
    (depth : ℕ) (room : Room) → ParsesTo depth room input_items ts (MakesBehind make.input (v.Declares (v.AnInput i))) room rest

abbrev pub StopsInput : List Token → Stop → Type 0
StopsInput ts e = (depth : ℕ) (room : Room) → Stops depth room input_items ts e

-- one of its values
pub record ParsesInteger (ts : List Token) (z : ℤ) (rest : List Token) : Type 0 where
  pub small : IsInputValue z
  pub parses : (depth : ℕ) (room : Room) → Parses depth room (Part p.Integer ∷ []) ts (v.Integer z ∷ []) room rest

abbrev pub StopsInteger : List Token → Stop → Type 0
StopsInteger ts e = (depth : ℕ) (room : Room) → Stops depth room (Part p.Integer ∷ []) ts e

-- further ones after some, up to the semicolon
pub record ParsesIntegers (some : List ℤ) (ts : List Token) (all : List ℤ) (rest : List Token) : Type 0 where
  pub others : List ℤ
  pub end : Token
  pub shape : all ≡ some ++ others
  pub parses : (depth : ℕ) (room : Room) →
      Parses depth room (Part p.MoreIntegers ∷ sign s.Semicolon ∷ []) ts (v.Integers others ∷ v.Lexed end ∷ []) room rest

abbrev pub StopsIntegers : List Token → Stop → Type 0
StopsIntegers ts e = (depth : ℕ) (room : Room) → Stops depth room (Part p.MoreIntegers ∷ sign s.Semicolon ∷ []) ts e

-- the fault of the tokens; nothing is said where memory was refused
abbrev pub TellsStop : List Token → Stop → Type 0
TellsStop ts e = (f : Fault) → fault_of e ≡ Some f → HasFault ts f
