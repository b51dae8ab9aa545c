-- What the parts of a text stand for.
use Rattle.std.specs.Prelude.{ℕ, ℤ, pos, List, [], ◌∷◌, Option, None, get_or}
use Rattle.ppm_text.specs.declared.token.Kind.{Kind}
use Rattle.ppm_text.specs.declared.token.Kind.TheVariants as kind
use Rattle.ppm_text.specs.declared.token.Token.{Token}
use Rattle.ppm_text.specs.declared.token.Sign.TheVariants as sign
use Rattle.ppm_tree.specs.declared.mode.Mode.{Mode}
use Rattle.ppm_tree.specs.declared.mode.Mode.TheVariants as mode
use Rattle.ppm_tree.specs.declared.named.Named.{Named}
use Rattle.ppm_tree.specs.declared.tree.Parameter.{Parameter}
use Rattle.ppm_tree.specs.declared.tree.Array.{Array}
use Rattle.ppm_tree.specs.declared.tree.ArrayInput.{ArrayInput}
use Rattle.ppm_tree.specs.Tree.{Expression, Argument, Side, Statement, Block, Nil, Give, Procedure, ProgramTree}
use Rattle.ppm_tree.specs.Tree as tree

-- the name that a token is
abbrev pub name_of : Kind → List ℕ
name_of (kind.Name bytes) = bytes
name_of _ = []

-- the number that a token is
abbrev pub number_of : Kind → ℕ
number_of (kind.Number value) = value
number_of _ = 0

-- a name, with the line of its token
abbrev pub named : Token → Named
named t = record { name = name_of t.kind; line = t.line }

-- one of the things that a program declares
pub data Declaration : Type 0 where
  AnArray : (array : Array) → Declaration
  AProcedure : (procedure : Procedure) → Declaration
  AnInput : (input : ArrayInput) → Declaration

-- a program with one declaration more in front
abbrev pub declaring : Declaration → ProgramTree → ProgramTree
declaring (AnArray a) t = record { arrays = a ∷ t.arrays; procedures = t.procedures; inputs = t.inputs }
declaring (AProcedure p) t = record { arrays = t.arrays; procedures = p ∷ t.procedures; inputs = t.inputs }
declaring (AnInput i) t = record { arrays = t.arrays; procedures = t.procedures; inputs = i ∷ t.inputs }

-- what a part stands for: a token for itself, and an expression keeps the line of its first token; what goes on from a name or an
-- operand stands for what the two make
pub data Value : Type 0 where
  Lexed : (token : Token) → Value
  Program : (tree : ProgramTree) → Value
  Declares : (declaration : Declaration) → Value
  Parameters : (parameters : List Parameter) → Value
  OneParameter : (parameter : Parameter) → Value
  Taken : (mode : Mode) → Value
  Integers : (values : List ℤ) → Value
  Integer : (value : ℤ) → Value
  Body : (statements : Block) (give : Option Give) → Value
  Statements : (statements : Block) → Value
  Gives : (give : Option Give) → Value
  OneStatement : (statement : Statement) → Value
  FromName : (statement : Named → Statement) → Value
  OneSide : (side : Side) → Value
  SideFromName : (side : Named → Side) → Value
  Arguments : (arguments : List Argument) → Value
  OneArgument : (argument : Argument) → Value
  Expr : (line : ℕ) (expression : Expression) → Value
  FromOperand : (expression : Expression → Expression) → Value
  FromRegion : (expression : Named → Expression) → Value

-- what stands at an item, counted from 0; the values of other kinds of parts, which stand nowhere, are filled in below
abbrev pub item : List Value → ℕ → Value
item vs n = get_or vs n (Lexed (record { kind = kind.Sign sign.Semicolon; place = 0; line = 1 }))

-- no program, an expression and a side to fill in
abbrev pub no_program : ProgramTree
no_program = record { arrays = []; procedures = []; inputs = [] }

abbrev pub no_name : Named
no_name = record { name = []; line = 1 }

abbrev pub no_expression : Expression
no_expression = tree.Number (pos 0)

abbrev pub no_side : Side
no_side = record { target = None; callee = no_name; arguments = [] }

abbrev pub no_statement : Statement
no_statement = tree.Assign no_name no_expression

-- the token, its line, its number, and the name that it is with its line
abbrev pub token_in : Value → Token
token_in (Lexed t) = t
token_in _ = record { kind = kind.Sign sign.Semicolon; place = 0; line = 1 }

abbrev pub line_in : Value → ℕ
line_in v = (token_in v).line

abbrev pub number_in : Value → ℕ
number_in v = number_of (token_in v).kind

abbrev pub name_in : Value → Named
name_in v = named (token_in v)

-- the program
abbrev pub program_in : Value → ProgramTree
program_in (Program t) = t
program_in _ = no_program

-- the declaration
abbrev pub declaration_in : Value → Declaration
declaration_in (Declares d) = d
declaration_in _ = AnArray (record { name = no_name; words = 0 })

-- the parameters
abbrev pub parameters_in : Value → List Parameter
parameters_in (Parameters ps) = ps
parameters_in _ = []

-- the parameter
abbrev pub parameter_in : Value → Parameter
parameter_in (OneParameter p) = p
parameter_in _ = record { mode = mode.Int; name = no_name }

-- how it is taken
abbrev pub mode_in : Value → Mode
mode_in (Taken m) = m
mode_in _ = mode.Int

-- the values
abbrev pub integers_in : Value → List ℤ
integers_in (Integers zs) = zs
integers_in _ = []

-- the value
abbrev pub integer_in : Value → ℤ
integer_in (Integer z) = z
integer_in _ = pos 0

-- the statements
abbrev pub block_in : Value → Block
block_in (Statements b) = b
block_in _ = Nil

-- what is given
abbrev pub give_in : Value → Option Give
give_in (Gives g) = g
give_in _ = None

-- the statement
abbrev pub statement_in : Value → Statement
statement_in (OneStatement s) = s
statement_in _ = no_statement

-- the statement with a name in front
abbrev pub from_name_in : Value → Named → Statement
from_name_in (FromName f) = f
from_name_in _ = λ x. no_statement

-- the side
abbrev pub side_in : Value → Side
side_in (OneSide s) = s
side_in _ = no_side

-- the side with a name in front
abbrev pub side_from_name_in : Value → Named → Side
side_from_name_in (SideFromName f) = f
side_from_name_in _ = λ x. no_side

-- the arguments
abbrev pub arguments_in : Value → List Argument
arguments_in (Arguments xs) = xs
arguments_in _ = []

-- the argument
abbrev pub argument_in : Value → Argument
argument_in (OneArgument a) = a
argument_in _ = record { line = 1; value = no_expression }

-- the expression
abbrev pub expression_in : Value → Expression
expression_in (Expr line e) = e
expression_in _ = no_expression

-- the line of its first token
abbrev pub first_line_in : Value → ℕ
first_line_in (Expr line e) = line
first_line_in _ = 1

-- the expression with an operand in front, which is the operand where nothing goes on from it
abbrev pub from_operand_in : Value → Expression → Expression
from_operand_in (FromOperand f) = f
from_operand_in _ = λ e. e

-- the expression with a name in front
abbrev pub from_region_in : Value → Named → Expression
from_region_in (FromRegion f) = f
from_region_in _ = λ x. no_expression

-- the statements of a body, and what it gives
abbrev pub body_in : Value → Block
body_in (Body b give) = b
body_in _ = Nil

abbrev pub body_give_in : Value → Option Give
body_give_in (Body b give) = give
body_give_in _ = None
