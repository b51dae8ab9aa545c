-- The names by which a trace tells the arrays and the procedures of a code.
use Rattle.std.specs.Prelude.{List, [], ◌∷◌, ◌++◌, length, map}
use Rattle.std.specs.List.{flat_map, range_with_len}
use Rattle.ppm_words.specs.declared.named_array.NamedArray.{NamedArray}
use Rattle.ppm_tree.specs.Tree.{Statement, Block, Nil, Then, Procedure, ProgramTree}
use Rattle.ppm_tree.specs.Tree as tree
use Rattle.ppm_tree.specs.Program.{initial_arrays}
use Rattle.ppm_code.specs.declared.code.CodeParts.{CodeParts}
use Rattle.ppm_cut_code.specs.Routines.{Routine, OfText, Hidden, routines_of}
use Rattle.ppm_naming.specs.declared.names.Names.{Names}
use Rattle.ppm_naming.specs.declared.names.ProcedureName.{ProcedureName}
use Rattle.ppm_naming.specs.declared.names.ProcedureName.TheVariants as name

-- the name of a procedure of a program's code: its own, or of the hidden one of an `each` the line of the region's name
abbrev pub routine_name : Routine → ProcedureName
routine_name (OfText p h) = name.Named p.name.name
routine_name (Hidden s) = name.EachOf s.line

-- the names of these procedures and of these arrays
abbrev pub names_with : List ProcedureName → List NamedArray → Names
names_with procedures arrays = record { arrays = map (λ a. a.name) arrays; procedures = procedures }

-- those of a program: its procedures in the order of their numbers in its code
abbrev pub program_names : ProgramTree → Names
program_names t = names_with (map routine_name (routines_of t.procedures)) (initial_arrays t)

-- those of a code on an input, whose procedures have numbers alone
abbrev pub case_names : CodeParts → List NamedArray → Names
case_names code input = names_with (map (λ number. name.Numbered number) (range_with_len 0 (length code.procedures))) input

abbrev mutual
  -- the names of the hidden procedures of a statement and of a block, in the order of the text
  pub hidden_names : Statement → List ProcedureName
  hidden_names (tree.If e holds other) = hidden_names_in holds ++ hidden_names_in other
  hidden_names (tree.While e block) = hidden_names_in block
  hidden_names (tree.Split line r e x y block) = hidden_names_in block
  hidden_names (tree.Each i x r block) = name.EachOf r.line ∷ hidden_names_in block
  hidden_names (tree.Let x e) = []
  hidden_names (tree.Assign x e) = []
  hidden_names (tree.Put x index e) = []
  hidden_names (tree.Call s) = []
  hidden_names (tree.Fork s t) = []

  pub hidden_names_in : Block → List ProcedureName
  hidden_names_in Nil = []
  hidden_names_in (Then s rest) = hidden_names s ++ hidden_names_in rest

-- the names of the procedures of a text, and those of all hidden ones
abbrev pub text_names : List Procedure → List ProcedureName
text_names procedures = map (λ p. name.Named p.name.name) procedures

abbrev pub all_hidden_names : List Procedure → List ProcedureName
all_hidden_names procedures = flat_map (λ p. hidden_names_in p.body) procedures
