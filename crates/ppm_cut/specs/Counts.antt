-- Bounds on what is counted along a tree, so that each count fits a number of 32 bits.
use Rattle.std.specs.Prelude.{ℕ, ◌+◌, ◌≤◌, List, [], ◌∷◌, length, map, Option, Some, None}
use Rattle.std.specs.List.{AllByRecursion}
use Rattle.ppm_tree.specs.declared.tree.Argument as declared_argument
use Rattle.ppm_tree.specs.Tree.{Argument, Side, Statement, Block, Nil, Then, Give, Procedure, expression_of}
use Rattle.ppm_tree.specs.Tree as tree
use Rattle.ppm_cut_code.specs.Expressions.{size_of}

-- arguments, from the declared type
abbrev pub arguments_of : List declared_argument.Argument → List Argument
arguments_of arguments = map (λ a. record { line = a.line; value = expression_of a.value }) arguments

-- no count passes this number
abbrev pub count_limit : ℕ
count_limit = 1048576

-- the instructions of an expression: three for each of the 48 nodes of a statement
abbrev pub size_limit : ℕ
size_limit = 144

abbrev mutual
  -- the capsules of a statement, in the procedure that it stands in; no more than half as many names are in force in it
  pub own_count : Statement → ℕ
  own_count (tree.If e holds other) = 4 + own_count_in holds + own_count_in other
  own_count (tree.While e block) = 4 + own_count_in block
  own_count (tree.Split line r e x y block) = 4 + own_count_in block
  own_count s = 4

  pub own_count_in : Block → ℕ
  own_count_in Nil = 0
  own_count_in (Then s rest) = own_count s + own_count_in rest

abbrev mutual
  -- the capsules of the hidden procedures of a statement; there are no more of these procedures
  pub hidden_count : Statement → ℕ
  hidden_count (tree.If e holds other) = hidden_count_in holds + hidden_count_in other
  hidden_count (tree.While e block) = hidden_count_in block
  hidden_count (tree.Split line r e x y block) = hidden_count_in block
  hidden_count (tree.Each i x r block) = 6 + own_count_in block + hidden_count_in block
  hidden_count s = 0

  pub hidden_count_in : Block → ℕ
  hidden_count_in Nil = 0
  hidden_count_in (Then s rest) = hidden_count s + hidden_count_in rest

-- those of procedures
abbrev pub own_counts : List Procedure → ℕ
own_counts [] = 0
own_counts (p ∷ procedures) = 2 + own_count_in p.body + own_counts procedures

abbrev pub hidden_counts : List Procedure → ℕ
hidden_counts [] = 0
hidden_counts (p ∷ procedures) = hidden_count_in p.body + hidden_counts procedures

-- the arguments of a side are few and short
pub record IsShortSide (s : Side) : Type 0 where
  pub few : length s.arguments ≤ 12
  pub each : AllByRecursion (λ a. size_of a.value ≤ size_limit) s.arguments

abbrev mutual
  -- the expressions of a statement are short, and those in its blocks
  pub IsShort : Statement → Type 0
  IsShort (tree.Let x e) = size_of e ≤ size_limit
  IsShort (tree.Assign x e) = size_of e ≤ size_limit
  IsShort (tree.Put x index e) = (size_of index ≤ size_limit) × (size_of e ≤ size_limit)
  IsShort (tree.If e holds other) = (size_of e ≤ size_limit) × IsShortBlock holds × IsShortBlock other
  IsShort (tree.While e block) = (size_of e ≤ size_limit) × IsShortBlock block
  IsShort (tree.Call s) = IsShortSide s
  IsShort (tree.Fork s t) = IsShortSide s × IsShortSide t
  IsShort (tree.Split line r e x y block) = (size_of e ≤ size_limit) × IsShortBlock block
  IsShort (tree.Each i x r block) = IsShortBlock block

  pub IsShortBlock : Block → Type 0
  IsShortBlock Nil = Unit {0}
  IsShortBlock (Then s rest) = IsShort s × IsShortBlock rest

-- what a body gives is short
abbrev pub IsShortGive : Option Give → Type 0
IsShortGive None = Unit {0}
IsShortGive (Some g) = size_of g.value ≤ size_limit

-- a procedure with few parameters and short expressions
pub record IsShortProcedure (p : Procedure) : Type 0 where
  pub parameters : length p.parameters ≤ 12
  pub body : IsShortBlock p.body
  pub give : IsShortGive p.give

-- a procedure of few parameters, and of few names in force
pub record IsSmallProcedure (p : Procedure) : Type 0 where
  pub parameters : length p.parameters ≤ 12
  pub counts : own_count_in p.body ≤ 65535
