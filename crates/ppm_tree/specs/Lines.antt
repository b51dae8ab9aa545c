-- Trees, lines apart.
use Rattle.std.specs.Prelude.{map, Option, Some, None}
use Rattle.ppm_tree.specs.declared.named.Named.{Named}
use Rattle.ppm_tree.specs.declared.tree.Parameter.{Parameter}
use Rattle.ppm_tree.specs.declared.tree.Array.{Array}
use Rattle.ppm_tree.specs.declared.tree.ArrayInput.{ArrayInput}
use Rattle.ppm_tree.specs.Tree.{Expression, Argument, Side, Statement, Block, Nil, Then, Give, Procedure}
use Rattle.ppm_tree.specs.Tree.{ProgramTree}
use Rattle.ppm_tree.specs.Tree as tree

-- a name in no line
abbrev pub bare_name : Named → Named
bare_name x = record { name = x.name; line = 0 }

-- an expression in no line
abbrev pub bare_expression : Expression → Expression
bare_expression (tree.Number z) = tree.Number z
bare_expression (tree.Name x) = tree.Name (bare_name x)
bare_expression (tree.Element x index) = tree.Element (bare_name x) (bare_expression index)
bare_expression (tree.Len x) = tree.Len (bare_name x)
bare_expression (tree.Minus line e) = tree.Minus 0 (bare_expression e)
bare_expression (tree.Binary o line left right) = tree.Binary o 0 (bare_expression left) (bare_expression right)

-- an argument, a target and a call in no line
abbrev pub bare_argument : Argument → Argument
bare_argument a = record { line = 0; value = bare_expression a.value }

abbrev pub bare_target : Option Named → Option Named
bare_target None = None
bare_target (Some x) = Some (bare_name x)

abbrev pub bare_side : Side → Side
bare_side s = record { target = bare_target s.target; callee = bare_name s.callee; arguments = map bare_argument s.arguments }

abbrev mutual
  -- a statement in no line
  pub bare_statement : Statement → Statement
  bare_statement (tree.Let x e) = tree.Let (bare_name x) (bare_expression e)
  bare_statement (tree.Assign x e) = tree.Assign (bare_name x) (bare_expression e)
  bare_statement (tree.Put x index e) = tree.Put (bare_name x) (bare_expression index) (bare_expression e)
  bare_statement (tree.If e block other) = tree.If (bare_expression e) (bare_block block) (bare_block other)
  bare_statement (tree.While e block) = tree.While (bare_expression e) (bare_block block)
  bare_statement (tree.Call side) = tree.Call (bare_side side)
  bare_statement (tree.Fork left right) = tree.Fork (bare_side left) (bare_side right)
  bare_statement (tree.Split line r e x y block) = tree.Split 0 (bare_name r) (bare_expression e) (bare_name x) (bare_name y) (bare_block block)
  bare_statement (tree.Each i x r block) = tree.Each (bare_name i) (bare_name x) (bare_name r) (bare_block block)

  -- a block in no line
  pub bare_block : Block → Block
  bare_block Nil = Nil
  bare_block (Then s rest) = Then (bare_statement s) (bare_block rest)

-- what a body gives, in no line
abbrev pub bare_give : Option Give → Option Give
bare_give None = None
bare_give (Some g) = Some (record { line = 0; value = bare_expression g.value })

-- declarations in no line
abbrev pub bare_parameter : Parameter → Parameter
bare_parameter p = record { mode = p.mode; name = bare_name p.name }

abbrev pub bare_array : Array → Array
bare_array a = record { name = bare_name a.name; words = a.words }

abbrev pub bare_procedure : Procedure → Procedure
bare_procedure p = record {
  name = bare_name p.name;
  parameters = map bare_parameter p.parameters;
  body = bare_block p.body;
  give = bare_give p.give;
}

abbrev pub bare_input : ArrayInput → ArrayInput
bare_input i = record { name = bare_name i.name; values = i.values }

-- a tree without its lines, all of which are 0
abbrev pub without_lines : ProgramTree → ProgramTree
without_lines t = record {
  arrays = map bare_array t.arrays;
  procedures = map bare_procedure t.procedures;
  inputs = map bare_input t.inputs;
}
