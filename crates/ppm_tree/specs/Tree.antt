-- The trees of the language. Parentheses leave no node; a line is kept where a trap or a refusal can name it.
use Rattle.std.specs.Prelude.{ℕ, ℤ, List, [], ◌∷◌, Option, Some, None, map}
use Rattle.ppm_tree.specs.declared.operator.Operator.{Operator}
pub use Rattle.ppm_tree.specs.declared.named.Named.{Named}
pub use Rattle.ppm_tree.specs.declared.tree.Parameter.{Parameter}
pub use Rattle.ppm_tree.specs.declared.tree.Array.{Array}
pub use Rattle.ppm_tree.specs.declared.tree.ArrayInput.{ArrayInput}
use Rattle.ppm_tree.specs.declared.tree.Expr.{Expr}
use Rattle.ppm_tree.specs.declared.tree.Expr.TheVariants as expr
use Rattle.ppm_tree.specs.declared.tree.Stmt.{Stmt, Row_of-Stmt, end_of-Stmt, more_of-Stmt}
use Rattle.ppm_tree.specs.declared.tree.Stmt.TheVariants as stmt
use Rattle.ppm_tree.specs.declared.tree.Side as declared_side
use Rattle.ppm_tree.specs.declared.tree.Give as declared_give
use Rattle.ppm_tree.specs.declared.tree.Proc.{Proc}
use Rattle.ppm_tree.specs.declared.tree.Tree as declared_tree

-- an expression: a literal, a name alone, an element of a region, a region's length, a unary minus, a binary operator
pub data Expression : Type 0 where
  Number : (value : ℤ) → Expression
  Name : (name : Named) → Expression
  Element : (region : Named) (index : Expression) → Expression
  Len : (region : Named) → Expression
  Minus : (line : ℕ) (operand : Expression) → Expression
  Binary : (operator : Operator) (line : ℕ) (left right : Expression) → Expression

-- an argument of a call, with the line of its first token
pub record Argument : Type 0 where
  pub line : ℕ
  pub value : Expression

-- a call, or a side of a fork: the local that gets the value, if any, the procedure and its arguments
pub record Side : Type 0 where
  pub target : Option Named
  pub callee : Named
  pub arguments : List Argument

mutual
  -- a statement; a split keeps the line of its word, and an `if` without an `else` has an empty block there
  pub data Statement : Type 0 where
    Let : (local : Named) (value : Expression) → Statement
    Assign : (local : Named) (value : Expression) → Statement
    Put : (region : Named) (index value : Expression) → Statement
    If : (test : Expression) (holds else : Block) → Statement
    While : (test : Expression) (block : Block) → Statement
    Call : (side : Side) → Statement
    Fork : (left right : Side) → Statement
    Split : (line : ℕ) (region : Named) (at : Expression) (first second : Named) (block : Block) → Statement
    Each : (index part region : Named) (block : Block) → Statement

  -- statements in their order
  pub data Block : Type 0 where
    Nil : Block
    Then : (statement : Statement) (rest : Block) → Block

-- what a body gives, with the line of the word
pub record Give : Type 0 where
  pub line : ℕ
  pub value : Expression

-- a procedure: its name, its parameters, the statements of its body and what the body gives after them, if anything
pub record Procedure : Type 0 where
  pub name : Named
  pub parameters : List Parameter
  pub body : Block
  pub give : Option Give

-- what a program declares, each kind in the order of the text
pub record ProgramTree : Type 0 where
  pub arrays : List Array
  pub procedures : List Procedure
  pub inputs : List ArrayInput

-- the expression that a declared type holds
abbrev pub expression_of : Expr → Expression
expression_of (expr.Number z) = Number z
expression_of (expr.Name x) = Name x
expression_of (expr.Element' x p index) = Element x (expression_of index)
expression_of (expr.Len x) = Len x
expression_of (expr.Minus' line p e) = Minus line (expression_of e)
expression_of (expr.Binary' o line p left q right) = Binary o line (expression_of left) (expression_of right)

-- the call or side of a fork that a declared type holds
abbrev pub side_of : declared_side.Side → Side
side_of s = record {
  target = s.target;
  callee = s.callee;
  arguments = map (λ a. record { line = a.line; value = expression_of a.value }) s.arguments;
}

abbrev mutual
  -- the statement that a declared type holds
  pub statement_of : Stmt → Statement
  statement_of (stmt.Let x e) = Let x (expression_of e)
  statement_of (stmt.Assign x e) = Assign x (expression_of e)
  statement_of (stmt.Put x index e) = Put x (expression_of index) (expression_of e)
  statement_of (stmt.If' e n holds m else) = If (expression_of e) (row_block holds) (row_block else)
  statement_of (stmt.While' e n block) = While (expression_of e) (row_block block)
  statement_of (stmt.Call s) = Call (side_of s)
  statement_of (stmt.Fork s t) = Fork (side_of s) (side_of t)
  statement_of (stmt.Split' line r e x y n block) = Split line r (expression_of e) x y (row_block block)
  statement_of (stmt.Each' i x r n block) = Each i x r (row_block block)

  -- the block that a row of declared statements holds
  pub row_block : {n : _} → Row_of-Stmt n → Block
  row_block end_of-Stmt = Nil
  row_block (more_of-Stmt s rest) = Then (statement_of s) (row_block rest)

-- the block that a list of declared statements holds
abbrev pub block_of : List Stmt → Block
block_of [] = Nil
block_of (s ∷ rest) = Then (statement_of s) (block_of rest)

-- what a body gives, from the declared type
abbrev pub give_of : Option declared_give.Give → Option Give
give_of None = None
give_of (Some g) = Some (record { line = g.line; value = expression_of g.value })

-- the procedure that a declared type holds
abbrev pub procedure_of : Proc → Procedure
procedure_of p = record { name = p.name; parameters = p.parameters; body = block_of p.body.items; give = give_of p.give }

-- the program that a declared type holds
abbrev pub tree_of : declared_tree.Tree → ProgramTree
tree_of t = record { arrays = t.arrays; procedures = map procedure_of t.procedures; inputs = t.inputs }
