-- The canonical text of a tree. Its tokens are those of the grammar's rows, and what a tree does not tell is settled here:
-- arrays come first, then procedures, then inputs, since a tree keeps no order between these kinds; each operation with two operands
-- stands in parentheses, wherever it stands; an `if` whose second block is empty has no `else`; a negative value is a minus and a number.
-- The text of a program ends with the line feed after its last token, and a program that declares nothing has the empty text.
use Rattle.std.specs.Prelude.{ℕ, suc, ℤ, pos, negsuc, List, [], ◌∷◌, ◌++◌, Option, Some, None}
use Rattle.std.specs.List.{flat_map}
use Rattle.ppm_text.specs.declared.token.Keyword.{Keyword}
use Rattle.ppm_text.specs.declared.token.Keyword.TheVariants as k
use Rattle.ppm_text.specs.declared.token.Sign.{Sign}
use Rattle.ppm_text.specs.declared.token.Sign.TheVariants as s
use Rattle.ppm_text.specs.declared.token.Kind.{Kind}
use Rattle.ppm_text.specs.declared.token.Kind.TheVariants as kind
use Rattle.ppm_tree.specs.declared.mode.Mode.{Mode}
use Rattle.ppm_tree.specs.declared.mode.Mode.TheVariants as mode
use Rattle.ppm_tree.specs.declared.operator.Operator.{Operator}
use Rattle.ppm_tree.specs.declared.operator.Operator.TheVariants as o
use Rattle.ppm_tree.specs.declared.named.Named.{Named}
use Rattle.ppm_tree.specs.declared.tree.Parameter.{Parameter}
use Rattle.ppm_tree.specs.declared.tree.Array.{Array}
use Rattle.ppm_tree.specs.declared.tree.ArrayInput.{ArrayInput}
use Rattle.ppm_tree.specs.Tree.{Expression, Argument, Side, Statement, Block, Nil, Then, Give, Procedure}
use Rattle.ppm_tree.specs.Tree.{ProgramTree}
use Rattle.ppm_tree.specs.Tree as tree
use Rattle.ppm_printer.specs.Spelled.{text_of}

-- a name, a number, a keyword, a sign
abbrev pub name : Named → Kind
name x = kind.Name x.name

abbrev pub number : ℕ → Kind
number n = kind.Number n

abbrev pub word : Keyword → Kind
word which = kind.Keyword which

abbrev pub sign : Sign → Kind
sign which = kind.Sign which

-- the sign of an operator
abbrev pub operator_sign : Operator → Sign
operator_sign o.Add = s.Plus
operator_sign o.Sub = s.Minus
operator_sign o.Mul = s.Times
operator_sign o.Div = s.Divide
operator_sign o.Rem = s.Remainder
operator_sign o.Eq = s.Equal
operator_sign o.Ne = s.NotEqual
operator_sign o.Lt = s.Less
operator_sign o.Le = s.LessEqual
operator_sign o.Gt = s.Greater
operator_sign o.Ge = s.GreaterEqual
operator_sign o.And = s.Both
operator_sign o.Or = s.Either

-- a value, with a minus where it is below 0
abbrev pub integer_tokens : ℤ → List Kind
integer_tokens (pos n) = number n ∷ []
integer_tokens (negsuc n) = sign s.Minus ∷ number (suc n) ∷ []

-- an expression
abbrev pub expression_tokens : Expression → List Kind
expression_tokens (tree.Number z) = integer_tokens z
expression_tokens (tree.Name x) = name x ∷ []
expression_tokens (tree.Element x index) = name x ∷ sign s.OpenBracket ∷ expression_tokens index ++ sign s.CloseBracket ∷ []
expression_tokens (tree.Len x) = word k.Len ∷ name x ∷ []
expression_tokens (tree.Minus line e) = sign s.Minus ∷ expression_tokens e
expression_tokens (tree.Binary operator line left right) =
    sign s.OpenParen ∷ expression_tokens left ++ sign (operator_sign operator) ∷ expression_tokens right ++ sign s.CloseParen ∷ []

-- what is assigned, up to the end of the statement
abbrev pub assigned_tokens : Expression → List Kind
assigned_tokens e = sign s.Assign ∷ expression_tokens e ++ sign s.Semicolon ∷ []

-- things with a comma in front of each, and with commas between them
abbrev pub more_tokens : {A : Type 0} → (A → List Kind) → List A → List Kind
more_tokens tokens xs = flat_map (λ x. sign s.Comma ∷ tokens x) xs

abbrev pub list_tokens : {A : Type 0} → (A → List Kind) → List A → List Kind
list_tokens tokens [] = []
list_tokens tokens (x ∷ xs) = tokens x ++ more_tokens tokens xs

-- an argument
abbrev pub argument_tokens : Argument → List Kind
argument_tokens a = expression_tokens a.value

-- a procedure's name and its arguments
abbrev pub call_tokens : Side → List Kind
call_tokens side = name side.callee ∷ sign s.OpenParen ∷ list_tokens argument_tokens side.arguments ++ sign s.CloseParen ∷ []

-- a target, if there is one
abbrev pub target_tokens : Option Named → List Kind
target_tokens None = []
target_tokens (Some x) = name x ∷ sign s.Assign ∷ []

-- a side of a fork
abbrev pub side_tokens : Side → List Kind
side_tokens side = target_tokens side.target ++ call_tokens side

-- what stands in braces
abbrev pub braced : List Kind → List Kind
braced inner = sign s.OpenBrace ∷ inner ++ sign s.CloseBrace ∷ []

abbrev mutual
  -- a statement
  pub statement_tokens : Statement → List Kind
  statement_tokens (tree.Let x e) = word k.Let ∷ name x ∷ assigned_tokens e
  statement_tokens (tree.Assign x e) = name x ∷ assigned_tokens e
  statement_tokens (tree.Put x index e) = name x ∷ sign s.OpenBracket ∷ expression_tokens index ++ sign s.CloseBracket ∷ assigned_tokens e
  statement_tokens (tree.If e block other) = word k.If ∷ expression_tokens e ++ braced (block_tokens block) ++ else_tokens other
  statement_tokens (tree.While e block) = word k.While ∷ expression_tokens e ++ braced (block_tokens block)
  statement_tokens (tree.Call side) = target_tokens side.target ++ word k.Call ∷ call_tokens side ++ sign s.Semicolon ∷ []
  statement_tokens (tree.Fork left right) = word k.Fork ∷ side_tokens left ++ word k.And ∷ side_tokens right ++ sign s.Semicolon ∷ []
  statement_tokens (tree.Split line region e first second block) =
      word k.Split ∷ name region ∷ word k.At ∷ expression_tokens e
      ++ word k.Into ∷ name first ∷ sign s.Comma ∷ name second ∷ braced (block_tokens block)
  statement_tokens (tree.Each index part region block) =
      word k.Each ∷ name index ∷ sign s.Comma ∷ name part ∷ word k.In ∷ name region ∷ braced (block_tokens block)

  -- the statements of a block
  pub block_tokens : Block → List Kind
  block_tokens Nil = []
  block_tokens (Then statement rest) = statement_tokens statement ++ block_tokens rest

  -- what stands after the first block of an `if`
  pub else_tokens : Block → List Kind
  else_tokens Nil = []
  else_tokens (Then statement rest) = word k.Else ∷ braced (statement_tokens statement ++ block_tokens rest)

-- what a body gives, if anything
abbrev pub give_tokens : Option Give → List Kind
give_tokens None = []
give_tokens (Some g) = word k.Give ∷ expression_tokens g.value ++ sign s.Semicolon ∷ []

-- the word of a mode
abbrev pub mode_word : Mode → Keyword
mode_word mode.Mut = k.Mut
mode_word mode.Ref = k.Ref
mode_word mode.Int = k.Int

-- a parameter
abbrev pub parameter_tokens : Parameter → List Kind
parameter_tokens p = word (mode_word p.mode) ∷ name p.name ∷ []

-- an array
abbrev pub array_tokens : Array → List Kind
array_tokens a =
    word k.Array ∷ name a.name ∷ sign s.OpenBracket ∷ number a.words ∷ sign s.CloseBracket ∷ sign s.Semicolon ∷ []

-- a procedure
abbrev pub procedure_tokens : Procedure → List Kind
procedure_tokens p =
    word k.Proc ∷ name p.name ∷ sign s.OpenParen ∷ list_tokens parameter_tokens p.parameters
    ++ sign s.CloseParen ∷ braced (block_tokens p.body ++ give_tokens p.give)

-- an input
abbrev pub input_tokens : ArrayInput → List Kind
input_tokens i = word k.Input ∷ name i.name ∷ sign s.Assign ∷ list_tokens integer_tokens i.values ++ sign s.Semicolon ∷ []

-- a program
abbrev pub program_tokens : ProgramTree → List Kind
program_tokens t = flat_map array_tokens t.arrays ++ flat_map procedure_tokens t.procedures ++ flat_map input_tokens t.inputs

-- the canonical text of a program
abbrev pub canonical_text : ProgramTree → List ℕ
canonical_text t = text_of (program_tokens t)
