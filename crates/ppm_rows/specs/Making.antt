-- What each form of a part stands for, by what its items stand for, which are counted from 0.
use Rattle.std.specs.Prelude.{ℕ, ◌+◌, pos, neg_ℤ, List, ◌∷◌, Some, None}
use Rattle.ppm_tree.specs.declared.mode.Mode.{Mode}
use Rattle.ppm_tree.specs.declared.operator.Operator.{Operator}
use Rattle.ppm_tree.specs.declared.named.Named.{Named}
use Rattle.ppm_tree.specs.Tree.{Side, Then}
use Rattle.ppm_tree.specs.Tree as tree
use Rattle.ppm_rows.specs.Values.{Value, item, AnArray, AProcedure, AnInput, declaring, line_in, number_in, name_in}
use Rattle.ppm_rows.specs.Values.{declaration_in, program_in, parameters_in, parameter_in, mode_in, integers_in, integer_in, body_in, body_give_in}
use Rattle.ppm_rows.specs.Values.{block_in, give_in, statement_in, from_name_in, side_in, side_from_name_in, arguments_in, argument_in}
use Rattle.ppm_rows.specs.Values.{expression_in, first_line_in, from_operand_in, from_region_in}
use Rattle.ppm_rows.specs.Values as v

-- what a form stands for, by what its items stand for
abbrev pub Make : Type 0
Make = List Value → Value

-- what stands at the item
abbrev pub only : ℕ → Make
only n us = item us n

-- always the same
abbrev pub always : Value → Make
always v us = v

-- declaration program
abbrev pub program : Make
program us = v.Program (declaring (declaration_in (item us 0)) (program_in (item us 1)))

-- "array" name length ";"
abbrev pub array : Make
array us = v.Declares (AnArray (record { name = name_in (item us 1); words = number_in (item us 2) }))

-- "proc" name parameters body
abbrev pub procedure : Make
procedure us = v.Declares (AProcedure (record {
  name = name_in (item us 1);
  parameters = parameters_in (item us 2);
  body = body_in (item us 3);
  give = body_give_in (item us 3);
}))

-- "input" name "=" value values ";"
abbrev pub input : Make
input us = v.Declares (AnInput (record { name = name_in (item us 1); values = integer_in (item us 3) ∷ integers_in (item us 4) }))

-- number
abbrev pub plain_integer : Make
plain_integer us = v.Integer (pos (number_in (item us 0)))

-- "-" number
abbrev pub negative_integer : Make
negative_integer us = v.Integer (neg_ℤ (pos (number_in (item us 1))))

-- "," value values
abbrev pub more_integers : Make
more_integers us = v.Integers (integer_in (item us 1) ∷ integers_in (item us 2))

-- the word of the mode
abbrev pub taken : Mode → Make
taken mode us = v.Taken mode

-- mode name
abbrev pub parameter : Make
parameter us = v.OneParameter (record { mode = mode_in (item us 0); name = name_in (item us 1) })

-- parameter parameters, the first of which stands at the item
abbrev pub parameters : ℕ → Make
parameters n us = v.Parameters (parameter_in (item us n) ∷ parameters_in (item us (n + 1)))

-- "{" statements give "}"
abbrev pub body : Make
body us = v.Body (block_in (item us 1)) (give_in (item us 2))

-- statement statements
abbrev pub statements : Make
statements us = v.Statements (Then (statement_in (item us 0)) (block_in (item us 1)))

-- "give" expr ";"
abbrev pub give : Make
give us = v.Gives (Some (record { line = line_in (item us 0); value = expression_in (item us 1) }))

-- "let" name "=" expr ";"
abbrev pub local : Make
local us = v.OneStatement (tree.Let (name_in (item us 1)) (expression_in (item us 3)))

-- name, and what goes on from it
abbrev pub from_name : Make
from_name us = v.OneStatement (from_name_in (item us 1) (name_in (item us 0)))

-- "if" expr block else
abbrev pub choice : Make
choice us = v.OneStatement (tree.If (expression_in (item us 1)) (block_in (item us 2)) (block_in (item us 3)))

-- "while" expr block
abbrev pub loop : Make
loop us = v.OneStatement (tree.While (expression_in (item us 1)) (block_in (item us 2)))

-- "call" call ";"
abbrev pub call : Make
call us = v.OneStatement (tree.Call (side_in (item us 1)))

-- "fork" side "and" side ";"
abbrev pub fork : Make
fork us = v.OneStatement (tree.Fork (side_in (item us 1)) (side_in (item us 3)))

-- "split" name "at" expr "into" name "," name block
abbrev pub split : Make
split us = v.OneStatement (tree.Split (line_in (item us 0)) (name_in (item us 1)) (expression_in (item us 3)) (name_in (item us 5)) (name_in (item us 7))
    (block_in (item us 8)))

-- "each" name "," name "in" name block
abbrev pub each : Make
each us = v.OneStatement (tree.Each (name_in (item us 1)) (name_in (item us 3)) (name_in (item us 5)) (block_in (item us 6)))

-- element "=" expr ";"
abbrev pub put : Make
put us = v.FromName (λ x. tree.Put x (expression_in (item us 0)) (expression_in (item us 2)))

-- expr ";"
abbrev pub assigned : Make
assigned us = v.FromName (λ x. tree.Assign x (expression_in (item us 0)))

-- a call of which a local gets the value
abbrev pub for_target : Side → Named → Side
for_target s x = record { target = Some x; callee = s.callee; arguments = s.arguments }

-- "call" call ";"
abbrev pub assigned_call : Make
assigned_call us = v.FromName (λ x. tree.Call (for_target (side_in (item us 1)) x))

-- name, and the side that goes on from it
abbrev pub side : Make
side us = v.OneSide (side_from_name_in (item us 1) (name_in (item us 0)))

-- "=" call
abbrev pub target : Make
target us = v.SideFromName (λ x. for_target (side_in (item us 1)) x)

-- arguments
abbrev pub no_target : Make
no_target us = v.SideFromName (λ x. record { target = None; callee = x; arguments = arguments_in (item us 0) })

-- name arguments
abbrev pub called : Make
called us = v.OneSide (record { target = None; callee = name_in (item us 0); arguments = arguments_in (item us 1) })

-- argument arguments, the first of which stands at the item
abbrev pub arguments : ℕ → Make
arguments n us = v.Arguments (argument_in (item us n) ∷ arguments_in (item us (n + 1)))

-- expr
abbrev pub argument : Make
argument us = v.OneArgument (record { line = first_line_in (item us 0); value = expression_in (item us 0) })

-- operand, and what goes on from it
abbrev pub expression : Make
expression us = v.Expr (first_line_in (item us 0)) (from_operand_in (item us 1) (expression_in (item us 0)))

-- operator operand, and what goes on from both, if anything: a chain groups to the left
abbrev pub further : Operator → Make
further o us = v.FromOperand (λ left. from_operand_in (item us 2) (tree.Binary o (line_in (item us 0)) left (expression_in (item us 1))))

-- "-" operand
abbrev pub minus : Make
minus us = v.Expr (line_in (item us 0)) (tree.Minus (line_in (item us 0)) (expression_in (item us 1)))

-- number
abbrev pub literal : Make
literal us = v.Expr (line_in (item us 0)) (tree.Number (pos (number_in (item us 0))))

-- name, and its index
abbrev pub name : Make
name us = v.Expr (line_in (item us 0)) (from_region_in (item us 1) (name_in (item us 0)))

-- "len" name
abbrev pub len : Make
len us = v.Expr (line_in (item us 0)) (tree.Len (name_in (item us 1)))

-- "(" expr ")": the expression, with the line of the parenthesis
abbrev pub group : Make
group us = v.Expr (line_in (item us 0)) (expression_in (item us 1))

-- "[" expr "]"
abbrev pub index : Make
index us = v.FromRegion (λ x. tree.Element x (expression_in (item us 1)))
