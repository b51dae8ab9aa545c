-- The limits on a program, and the form of its names, numbers and lines.
use Rattle.std.specs.Prelude.{◌≢◌, ℕ, ◌+◌, ◌≤◌, ◌<◌, ℤ, pos, negsuc, List, [], ◌∷◌, length, map, codes}
use Rattle.std.specs.List.{All, sum}
pub use Rattle.ppm_words.specs.Limits.{array_limit, word_limit, depth_limit, procedure_limit, parameter_limit, node_limit, line_limit}
use Rattle.ppm_words.specs.Limits.{value_bound}
use Rattle.ppm_words.specs.Names.{IsName}
use Rattle.ppm_tree.specs.Tree.{Named, Expression, Side, Statement, Give, Parameter, Array, ArrayInput, Procedure, ProgramTree}
use Rattle.ppm_tree.specs.Parts.{nodes, node_numbers, node_names, node_lines, nodes_of, names_of, lines_of, sides_of, statements_in, block_depth}
use Rattle.ppm_tree.specs.Parts.{eaches_of, gives_of}

-- the keywords, which are no names
abbrev pub keywords : List (List ℕ)
keywords =
    codes "array" ∷ codes "proc" ∷ codes "input" ∷ codes "mut" ∷ codes "ref" ∷ codes "int" ∷ codes "let" ∷ codes "if" ∷ codes "else"
    ∷ codes "while" ∷ codes "call" ∷ codes "fork" ∷ codes "and" ∷ codes "split" ∷ codes "at" ∷ codes "into" ∷ codes "len" ∷ codes "each"
    ∷ codes "in" ∷ codes "give" ∷ []

-- a line of a text, counted from 1
pub record IsLine (line : ℕ) : Type 0 where
  pub first : 1 ≤ line
  pub last : line ≤ line_limit

-- a name has the form of one and is no keyword, and stands in a line of a text
pub record IsNamed (n : Named) : Type 0 where
  pub form : IsName n.name
  pub no_keyword : All (λ k. k ≢ n.name) keywords
  pub line : IsLine n.line

-- a literal is from 0 to 2^63 - 1
abbrev pub IsLiteral : ℤ → Type 0
IsLiteral (pos n) = n < value_bound
IsLiteral (negsuc n) = ⊥

-- a value of an input is a literal, or one with a minus: from -(2^63 - 1) to 2^63 - 1
abbrev pub IsInputValue : ℤ → Type 0
IsInputValue (pos n) = n < value_bound
IsInputValue (negsuc n) = n + 1 < value_bound

-- the numbers, names and lines of a node are such
pub record IsNode (e : Expression) : Type 0 where
  pub numbers : All IsLiteral (node_numbers e)
  pub names : All IsNamed (node_names e)
  pub lines : All IsLine (node_lines e)

-- a side passes no limit
pub record IsSmallSide (s : Side) : Type 0 where
  pub arguments : length s.arguments ≤ parameter_limit

-- a statement passes no limit, and neither do its parts; its blocks' statements count for themselves
pub record IsSmallStatement (s : Statement) : Type 0 where
  pub count : length (nodes_of s) ≤ node_limit
  pub nodes : All IsNode (nodes_of s)
  pub names : All IsNamed (names_of s)
  pub lines : All IsLine (lines_of s)
  pub sides : All IsSmallSide (sides_of s)

-- what a body gives passes no limit
pub record IsSmallGive (g : Give) : Type 0 where
  pub line : IsLine g.line
  pub count : length (nodes g.value) ≤ node_limit
  pub nodes : All IsNode (nodes g.value)

-- a parameter has a name
pub record IsParameter (p : Parameter) : Type 0 where
  pub name : IsNamed p.name

-- a procedure passes no limit
pub record IsSmall (p : Procedure) : Type 0 where
  pub name : IsNamed p.name
  pub count : length p.parameters ≤ parameter_limit
  pub parameters : All IsParameter p.parameters
  pub depth : block_depth p.body ≤ depth_limit
  pub statements : All IsSmallStatement (statements_in p.body)
  pub give : All IsSmallGive (gives_of p.give)

-- an array has a name
pub record IsArray (a : Array) : Type 0 where
  pub name : IsNamed a.name

-- an input has a name and at least one value, each of which is one
pub record IsArrayInput (i : ArrayInput) : Type 0 where
  pub name : IsNamed i.name
  pub count : 1 ≤ length i.values
  pub values : All IsInputValue i.values

-- how many procedures a procedure counts as: itself, and each `each` in it
abbrev pub procedures_in : Procedure → ℕ
procedures_in p = 1 + sum (map eaches_of (statements_in p.body))

-- a program passes no limit
pub record IsWithin (t : ProgramTree) : Type 0 where
  pub array_count : length t.arrays ≤ array_limit
  pub words : sum (map (λ a. a.words) t.arrays) ≤ word_limit
  pub procedure_count : sum (map procedures_in t.procedures) ≤ procedure_limit
  pub arrays : All IsArray t.arrays
  pub procedures : All IsSmall t.procedures
  pub inputs : All IsArrayInput t.inputs
