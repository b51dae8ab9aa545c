-- The parts of statements, each kind in one list, so that limits and rules are said of all of them at once.
use Rattle.std.specs.Prelude.{ℕ, suc, ℤ, List, [], ◌∷◌, ◌++◌, map, max, Option, Some, None}
use Rattle.std.specs.List.{flat_map}
use Rattle.ppm_tree.specs.Tree.{Named, Expression, Argument, Side, Statement, Block, Nil, Then, Give, Procedure}
use Rattle.ppm_tree.specs.Tree as tree

-- the nodes of an expression: the whole and all expressions in it, a whole before its operands
abbrev pub nodes : Expression → List Expression
nodes (tree.Number z) = tree.Number z ∷ []
nodes (tree.Name x) = tree.Name x ∷ []
nodes (tree.Element x index) = tree.Element x index ∷ nodes index
nodes (tree.Len x) = tree.Len x ∷ []
nodes (tree.Minus line e) = tree.Minus line e ∷ nodes e
nodes (tree.Binary o line left right) = tree.Binary o line left right ∷ nodes left ++ nodes right

-- the literal that a node is
abbrev pub node_numbers : Expression → List ℤ
node_numbers (tree.Number z) = z ∷ []
node_numbers (tree.Name x) = []
node_numbers (tree.Element x index) = []
node_numbers (tree.Len x) = []
node_numbers (tree.Minus line e) = []
node_numbers (tree.Binary o line left right) = []

-- the name that a node uses
abbrev pub node_names : Expression → List Named
node_names (tree.Name x) = x ∷ []
node_names (tree.Element x index) = x ∷ []
node_names (tree.Len x) = x ∷ []
node_names (tree.Number z) = []
node_names (tree.Minus line e) = []
node_names (tree.Binary o line left right) = []

-- the line of a node's operator
abbrev pub node_lines : Expression → List ℕ
node_lines (tree.Minus line e) = line ∷ []
node_lines (tree.Binary o line left right) = line ∷ []
node_lines (tree.Number z) = []
node_lines (tree.Name x) = []
node_lines (tree.Element x index) = []
node_lines (tree.Len x) = []

-- the name of a target, if there is one
abbrev pub target_names : Option Named → List Named
target_names None = []
target_names (Some x) = x ∷ []

-- the sides of a call or a fork
abbrev pub sides_of : Statement → List Side
sides_of (tree.Call s) = s ∷ []
sides_of (tree.Fork s t) = s ∷ t ∷ []
sides_of (tree.Let x e) = []
sides_of (tree.Assign x e) = []
sides_of (tree.Put x index e) = []
sides_of (tree.If e block other) = []
sides_of (tree.While e block) = []
sides_of (tree.Split line r e x y block) = []
sides_of (tree.Each i x r block) = []

-- the expressions of a statement itself, in the order in which they are evaluated; those of its blocks are their statements'
abbrev pub expressions_of : Statement → List Expression
expressions_of (tree.Let x e) = e ∷ []
expressions_of (tree.Assign x e) = e ∷ []
expressions_of (tree.Put x index e) = index ∷ e ∷ []
expressions_of (tree.If e block else) = e ∷ []
expressions_of (tree.While e block) = e ∷ []
expressions_of (tree.Call s) = map (λ a. a.value) s.arguments
expressions_of (tree.Fork s t) = map (λ a. a.value) s.arguments ++ map (λ a. a.value) t.arguments
expressions_of (tree.Split line r e x y block) = e ∷ []
expressions_of (tree.Each i x r block) = []

-- the nodes of a statement: those of its expressions
abbrev pub nodes_of : Statement → List Expression
nodes_of s = flat_map nodes (expressions_of s)

-- the names that a side has outside its arguments
abbrev pub side_names : Side → List Named
side_names s = target_names s.target ++ s.callee ∷ []

-- the names that a statement has outside its expressions and blocks
abbrev pub names_of : Statement → List Named
names_of (tree.Let x e) = x ∷ []
names_of (tree.Assign x e) = x ∷ []
names_of (tree.Put x index e) = x ∷ []
names_of (tree.If e block else) = []
names_of (tree.While e block) = []
names_of (tree.Call s) = side_names s
names_of (tree.Fork s t) = side_names s ++ side_names t
names_of (tree.Split line r e x y block) = r ∷ x ∷ y ∷ []
names_of (tree.Each i x r block) = i ∷ x ∷ r ∷ []

-- the lines of the arguments of sides
abbrev pub lines_of_sides : List Side → List ℕ
lines_of_sides sides = flat_map (λ s. map (λ a. a.line) s.arguments) sides

-- the lines that a statement keeps beside those of names and nodes: of the word `split`, and of each argument
abbrev pub lines_of : Statement → List ℕ
lines_of (tree.Let x e) = []
lines_of (tree.Assign x e) = []
lines_of (tree.Put x index e) = []
lines_of (tree.If e block other) = []
lines_of (tree.While e block) = []
lines_of (tree.Call s) = lines_of_sides (s ∷ [])
lines_of (tree.Fork s t) = lines_of_sides (s ∷ t ∷ [])
lines_of (tree.Split line r e x y block) = line ∷ []
lines_of (tree.Each i x r block) = []

abbrev mutual
  -- a statement and all statements in its blocks, in the order of the text
  pub statement_and_inner : Statement → List Statement
  statement_and_inner (tree.If e block else) = tree.If e block else ∷ statements_in block ++ statements_in else
  statement_and_inner (tree.While e block) = tree.While e block ∷ statements_in block
  statement_and_inner (tree.Split line r e x y block) = tree.Split line r e x y block ∷ statements_in block
  statement_and_inner (tree.Each i x r block) = tree.Each i x r block ∷ statements_in block
  statement_and_inner (tree.Let x e) = tree.Let x e ∷ []
  statement_and_inner (tree.Assign x e) = tree.Assign x e ∷ []
  statement_and_inner (tree.Put x index e) = tree.Put x index e ∷ []
  statement_and_inner (tree.Call s) = tree.Call s ∷ []
  statement_and_inner (tree.Fork s t) = tree.Fork s t ∷ []

  -- all statements of a block, those in their blocks too
  pub statements_in : Block → List Statement
  statements_in Nil = []
  statements_in (Then s rest) = statement_and_inner s ++ statements_in rest

abbrev mutual
  -- how deep the blocks of a statement are nested, 0 where it has none
  pub depth_of : Statement → ℕ
  depth_of (tree.If e block else) = max (block_depth block) (block_depth else)
  depth_of (tree.While e block) = block_depth block
  depth_of (tree.Split line r e x y block) = block_depth block
  depth_of (tree.Each i x r block) = block_depth block
  depth_of (tree.Let x e) = 0
  depth_of (tree.Assign x e) = 0
  depth_of (tree.Put x index e) = 0
  depth_of (tree.Call s) = 0
  depth_of (tree.Fork s t) = 0

  -- how deep blocks are nested here, this one counted
  pub block_depth : Block → ℕ
  block_depth Nil = 1
  block_depth (Then s rest) = max (suc (depth_of s)) (block_depth rest)

-- an `each` counts as a procedure
abbrev pub eaches_of : Statement → ℕ
eaches_of (tree.Each i x r block) = 1
eaches_of (tree.Let x e) = 0
eaches_of (tree.Assign x e) = 0
eaches_of (tree.Put x index e) = 0
eaches_of (tree.If e block other) = 0
eaches_of (tree.While e block) = 0
eaches_of (tree.Call s) = 0
eaches_of (tree.Fork s t) = 0
eaches_of (tree.Split line r e x y block) = 0

-- what a body gives, in a list
abbrev pub gives_of : Option Give → List Give
gives_of None = []
gives_of (Some g) = g ∷ []
