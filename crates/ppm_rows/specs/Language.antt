-- The grammar of the language: its parts, each with its rows.
use Rattle.std.specs.Prelude.{true, false, List, [], ◌∷◌, map, None}
use Rattle.ppm_grammar.specs.Rows.{Item, Take, Part, Row, Grammar}
use Rattle.ppm_text.specs.declared.token.Keyword.{Keyword}
use Rattle.ppm_text.specs.declared.token.Keyword.TheVariants as k
use Rattle.ppm_text.specs.declared.token.Sign.{Sign}
use Rattle.ppm_text.specs.declared.token.Sign.TheVariants as s
use Rattle.ppm_text.specs.declared.token.Token.{Token}
use Rattle.ppm_tree.specs.declared.mode.Mode.TheVariants as mode
use Rattle.ppm_tree.specs.Tree.{Nil}
use Rattle.ppm_tree.specs.Tree as tree
use Rattle.ppm_rows.specs.declared.level.Level.{Level}
use Rattle.ppm_rows.specs.declared.level.Level.TheVariants as level
use Rattle.ppm_rows.specs.Kinds.{Terminal, Name, Number, Word, Mark, terminal, sample, sampled, kinds}
use Rattle.ppm_rows.specs.Values.{Value, Lexed, no_program}
use Rattle.ppm_rows.specs.Values as v
use Rattle.ppm_rows.specs.Phrases.{Phrase, Expression, operand, phrases}
use Rattle.ppm_rows.specs.Phrases as p
use Rattle.ppm_rows.specs.Operations.{Operation, operations}
use Rattle.ppm_rows.specs.Making.{Make, only, always}
use Rattle.ppm_rows.specs.Making as make

-- what a token counts as where a number of the program has a limit
pub data Counted : Type 0 where
  AnArray : Counted
  ArrayWords : Counted
  AProcedure : Counted
  AList : Counted
  AnElement : Counted
  AStatement : Counted
  ANode : Counted
  AName : Counted

-- a form of a part
abbrev pub Form : Type 0
Form = Row Terminal Phrase Value Counted

-- a form with these items
abbrev pub form : List (Item Terminal Phrase) → Make → Form
form items make = record { items = items; opens = false; counts = []; make = make }

-- one whose tokens all stand in an opening more
abbrev pub opening : List (Item Terminal Phrase) → Make → Form
opening items make = record { items = items; opens = true; counts = []; make = make }

-- one whose first token counts as these
abbrev pub counting : List Counted → Form → Form
counting counts row = record { items = row.items; opens = row.opens; counts = counts; make = row.make }

-- a name, a number, a keyword, a sign
abbrev pub name : Item Terminal Phrase
name = Take Name

abbrev pub number : Item Terminal Phrase
number = Take Number

abbrev pub word : Keyword → Item Terminal Phrase
word which = Take (Word which)

abbrev pub sign : Sign → Item Terminal Phrase
sign which = Take (Mark which)

-- an expression
abbrev pub expr : Item Terminal Phrase
expr = Part Expression

-- what goes on from an operation: a comparison comes once, the others go on
abbrev pub goes_on : Level → List (Item Terminal Phrase)
goes_on level.Comparison = []
goes_on level = Part (p.FromOperand level) ∷ []

-- an operation after its first operand
abbrev pub operation_form : Level → Operation → Form
operation_form level x =
    counting (ANode ∷ []) (form (sign x.sign ∷ Part (operand level) ∷ goes_on level) (make.further x.operator))

-- the rows of each part
abbrev pub rows : Phrase → List Form
rows p.Source = form [] (always (v.Program no_program)) ∷ form (Part p.Declaration ∷ Part p.Source ∷ []) make.program ∷ []
rows p.Declaration =
    counting (AnArray ∷ []) (form (word k.Array ∷ name ∷ Part p.Length ∷ sign s.Semicolon ∷ []) make.array)
    ∷ counting (AProcedure ∷ []) (form (word k.Proc ∷ name ∷ Part p.ParameterList ∷ Part p.Body ∷ []) make.procedure)
    ∷ form (word k.Input ∷ name ∷ sign s.Assign ∷ Part p.Integer ∷ Part p.MoreIntegers ∷ sign s.Semicolon ∷ []) make.input
    ∷ []
rows p.Length = opening (sign s.OpenBracket ∷ Part p.Words ∷ sign s.CloseBracket ∷ []) (only 1) ∷ []
rows p.Words = counting (ArrayWords ∷ []) (form (number ∷ []) (only 0)) ∷ []
rows p.ParameterList =
    counting (AList ∷ []) (opening (sign s.OpenParen ∷ Part p.SomeParameters ∷ sign s.CloseParen ∷ []) (only 1)) ∷ []
rows p.SomeParameters = form [] (always (v.Parameters [])) ∷ form (Part p.Parameter ∷ Part p.MoreParameters ∷ []) (make.parameters 0) ∷ []
rows p.MoreParameters =
    form [] (always (v.Parameters [])) ∷ form (sign s.Comma ∷ Part p.Parameter ∷ Part p.MoreParameters ∷ []) (make.parameters 1) ∷ []
rows p.Parameter = counting (AnElement ∷ []) (form (Part p.Mode ∷ name ∷ []) make.parameter) ∷ []
rows p.Mode =
    form (word k.Mut ∷ []) (make.taken mode.Mut) ∷ form (word k.Ref ∷ []) (make.taken mode.Ref) ∷ form (word k.Int ∷ []) (make.taken mode.Int) ∷ []
rows p.Integer = form (number ∷ []) make.plain_integer ∷ form (sign s.Minus ∷ number ∷ []) make.negative_integer ∷ []
rows p.MoreIntegers =
    form [] (always (v.Integers [])) ∷ form (sign s.Comma ∷ Part p.Integer ∷ Part p.MoreIntegers ∷ []) make.more_integers ∷ []
rows p.Body = opening (sign s.OpenBrace ∷ Part p.Statements ∷ Part p.Give ∷ sign s.CloseBrace ∷ []) make.body ∷ []
rows p.Block = opening (sign s.OpenBrace ∷ Part p.Statements ∷ sign s.CloseBrace ∷ []) (only 1) ∷ []
rows p.Statements = form [] (always (v.Statements Nil)) ∷ form (Part p.Statement ∷ Part p.Statements ∷ []) make.statements ∷ []
rows p.Give = form [] (always (v.Gives None)) ∷ counting (AStatement ∷ []) (form (word k.Give ∷ expr ∷ sign s.Semicolon ∷ []) make.give) ∷ []
rows p.Statement =
    counting (AStatement ∷ []) (form (word k.Let ∷ name ∷ sign s.Assign ∷ expr ∷ sign s.Semicolon ∷ []) make.local)
    ∷ counting (AStatement ∷ []) (form (name ∷ Part p.AfterName ∷ []) make.from_name)
    ∷ counting (AStatement ∷ []) (form (word k.If ∷ expr ∷ Part p.Block ∷ Part p.Else ∷ []) make.choice)
    ∷ counting (AStatement ∷ []) (form (word k.While ∷ expr ∷ Part p.Block ∷ []) make.loop)
    ∷ counting (AStatement ∷ []) (form (word k.Call ∷ Part p.Call ∷ sign s.Semicolon ∷ []) make.call)
    ∷ counting (AStatement ∷ []) (form (word k.Fork ∷ Part p.Side ∷ word k.And ∷ Part p.Side ∷ sign s.Semicolon ∷ []) make.fork)
    ∷ counting (AStatement ∷ [])
    (form (word k.Split ∷ name ∷ word k.At ∷ expr ∷ word k.Into ∷ name ∷ sign s.Comma ∷ name ∷ Part p.Block ∷ []) make.split)
    ∷ counting (AStatement ∷ AProcedure ∷ [])
    (form (word k.Each ∷ name ∷ sign s.Comma ∷ name ∷ word k.In ∷ name ∷ Part p.Block ∷ []) make.each)
    ∷ []
rows p.AfterName =
    form (sign s.Assign ∷ Part p.Assigned ∷ []) (only 1)
    ∷ form (Part p.Element ∷ sign s.Assign ∷ expr ∷ sign s.Semicolon ∷ []) make.put
    ∷ []
rows p.Assigned =
    form (expr ∷ sign s.Semicolon ∷ []) make.assigned ∷ form (word k.Call ∷ Part p.Call ∷ sign s.Semicolon ∷ []) make.assigned_call ∷ []
rows p.Else = form [] (always (v.Statements Nil)) ∷ form (word k.Else ∷ Part p.Block ∷ []) (only 1) ∷ []
rows p.Side = form (name ∷ Part p.AfterTarget ∷ []) make.side ∷ []
rows p.AfterTarget = form (sign s.Assign ∷ Part p.Call ∷ []) make.target ∷ form (Part p.ArgumentList ∷ []) make.no_target ∷ []
rows p.Call = form (name ∷ Part p.ArgumentList ∷ []) make.called ∷ []
rows p.ArgumentList =
    counting (AList ∷ []) (opening (sign s.OpenParen ∷ Part p.SomeArguments ∷ sign s.CloseParen ∷ []) (only 1)) ∷ []
rows p.SomeArguments = form [] (always (v.Arguments [])) ∷ form (Part p.Argument ∷ Part p.MoreArguments ∷ []) (make.arguments 0) ∷ []
rows p.MoreArguments =
    form [] (always (v.Arguments [])) ∷ form (sign s.Comma ∷ Part p.Argument ∷ Part p.MoreArguments ∷ []) (make.arguments 1) ∷ []
rows p.Argument = counting (AnElement ∷ []) (form (expr ∷ []) make.argument) ∷ []
rows p.Element = opening (sign s.OpenBracket ∷ expr ∷ sign s.CloseBracket ∷ []) (only 1) ∷ []
rows (p.Operation level) = form (Part (operand level) ∷ Part (p.FromOperand level) ∷ []) make.expression ∷ []
rows (p.FromOperand level) = form [] (always (v.FromOperand (λ e. e))) ∷ map (λ x. operation_form level x) (operations level)
rows p.Operand =
    counting (ANode ∷ []) (opening (sign s.Minus ∷ Part p.Operand ∷ []) make.minus)
    ∷ counting (ANode ∷ []) (form (number ∷ []) make.literal)
    ∷ counting (AName ∷ []) (form (name ∷ Part p.Index ∷ []) make.name)
    ∷ counting (ANode ∷ []) (form (word k.Len ∷ name ∷ []) make.len)
    ∷ opening (sign s.OpenParen ∷ expr ∷ sign s.CloseParen ∷ []) make.group
    ∷ []
rows p.Index =
    form [] (always (v.FromRegion (λ x. tree.Name x)))
    ∷ counting (ANode ∷ []) (opening (sign s.OpenBracket ∷ expr ∷ sign s.CloseBracket ∷ []) make.index)
    ∷ []

-- the grammar
abbrev pub language : Grammar Token Terminal Phrase Value Counted
language = record {
  kinds = kinds;
  kind = λ t. terminal t.kind;
  value = λ t. Lexed t;
  place = λ t. t.place;
  sample = sample;
  sampled = sampled;
  parts = phrases;
  rows = rows;
  whole = p.Source;
}
