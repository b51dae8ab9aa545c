-- Trees whose names, literals and inputs are such, part by part.
use Rattle.std.proofs.Common.{◌<◌, ◌≤◌, List, length}
use Rattle.std.specs.Prelude.{Option, Some, None}
use Rattle.std.specs.List.{AllByRecursion}
use Rattle.ppm_words.specs.Limits.{value_bound}
use Rattle.ppm_tree.specs.declared.named.Named.{Named}
use Rattle.ppm_tree.specs.declared.tree.Array.{Array}
use Rattle.ppm_tree.specs.declared.tree.ArrayInput.{ArrayInput}
use Rattle.ppm_tree.specs.Tree.{Expression, Argument, Side, Statement, Block, Nil, Then, Give, Procedure, ProgramTree}
use Rattle.ppm_tree.specs.Tree as tree
use Rattle.ppm_tree.specs.Limits.{IsNamed, IsLiteral, IsInputValue, IsParameter}

-- an expression
abbrev pub FineExpression : Expression → Type 0
FineExpression (tree.Number z) = IsLiteral z
FineExpression (tree.Name x) = IsNamed x
FineExpression (tree.Element x index) = IsNamed x × FineExpression index
FineExpression (tree.Len x) = IsNamed x
FineExpression (tree.Minus line e) = FineExpression e
FineExpression (tree.Binary o line left right) = FineExpression left × FineExpression right

-- arguments and calls
abbrev pub FineArguments : List Argument → Type 0
FineArguments xs = AllByRecursion (λ a. FineExpression a.value) xs

abbrev pub FineTarget : Option Named → Type 0
FineTarget None = Unit {0}
FineTarget (Some x) = IsNamed x

pub record FineSide (s : Side) : Type 0 where
  pub target : FineTarget s.target
  pub callee : IsNamed s.callee
  pub arguments : FineArguments s.arguments

abbrev mutual
  -- a statement
  pub FineStatement : Statement → Type 0
  FineStatement (tree.Let x e) = IsNamed x × FineExpression e
  FineStatement (tree.Assign x e) = IsNamed x × FineExpression e
  FineStatement (tree.Put x index e) = IsNamed x × FineExpression index × FineExpression e
  FineStatement (tree.If e block other) = FineExpression e × FineBlock block × FineBlock other
  FineStatement (tree.While e block) = FineExpression e × FineBlock block
  FineStatement (tree.Call s) = FineSide s
  FineStatement (tree.Fork s t) = FineSide s × FineSide t
  FineStatement (tree.Split line r e x y block) = IsNamed r × FineExpression e × IsNamed x × IsNamed y × FineBlock block
  FineStatement (tree.Each i x r block) = IsNamed i × IsNamed x × IsNamed r × FineBlock block

  -- a block
  pub FineBlock : Block → Type 0
  FineBlock Nil = Unit {0}
  FineBlock (Then s rest) = FineStatement s × FineBlock rest

-- declarations
abbrev pub FineGive : Option Give → Type 0
FineGive None = Unit {0}
FineGive (Some g) = FineExpression g.value

pub record FineProcedure (p : Procedure) : Type 0 where
  pub name : IsNamed p.name
  pub parameters : AllByRecursion IsParameter p.parameters
  pub body : FineBlock p.body
  pub give : FineGive p.give

pub record FineArray (a : Array) : Type 0 where
  pub name : IsNamed a.name
  pub words : a.words < value_bound

pub record FineInput (i : ArrayInput) : Type 0 where
  pub name : IsNamed i.name
  pub count : 1 ≤ length i.values
  pub values : AllByRecursion IsInputValue i.values

pub record FineProgram (t : ProgramTree) : Type 0 where
  pub arrays : AllByRecursion FineArray t.arrays
  pub procedures : AllByRecursion FineProcedure t.procedures
  pub inputs : AllByRecursion FineInput t.inputs
