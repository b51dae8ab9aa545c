-- The kinds, parts and rows that the machine goes by, as those of the language's grammar.
use Rattle.std.specs.Prelude.{List, map, reverse}
use Rattle.ppm_grammar.specs.Rows as grammar
use Rattle.ppm_rows.specs.Kinds as kinds
use Rattle.ppm_rows.specs.Phrases as phrases
use Rattle.ppm_rows.specs.Language.{language}
use Rattle.ppm_expected.specs.declared.terminal.Terminal.{Terminal}
use Rattle.ppm_expected.specs.declared.terminal.Terminal.TheVariants as t
use Rattle.ppm_expected.specs.declared.phrase.Phrase.{Phrase}
use Rattle.ppm_expected.specs.declared.phrase.Phrase.TheVariants as p
use Rattle.ppm_expected.specs.declared.row.Item.{Item}
use Rattle.ppm_expected.specs.declared.row.Item.TheVariants as i
use Rattle.ppm_expected.specs.declared.row.Row.{Row}

-- the kind of tokens
abbrev pub terminal_of : Terminal → kinds.Terminal
terminal_of t.Name = kinds.Name
terminal_of t.Number = kinds.Number
terminal_of (t.Word keyword) = kinds.Word keyword
terminal_of (t.Mark sign) = kinds.Mark sign

-- the part
abbrev pub phrase_of : Phrase → phrases.Phrase
phrase_of p.Source = phrases.Source
phrase_of p.Declaration = phrases.Declaration
phrase_of p.Length = phrases.Length
phrase_of p.Words = phrases.Words
phrase_of p.ParameterList = phrases.ParameterList
phrase_of p.SomeParameters = phrases.SomeParameters
phrase_of p.MoreParameters = phrases.MoreParameters
phrase_of p.Parameter = phrases.Parameter
phrase_of p.Mode = phrases.Mode
phrase_of p.Integer = phrases.Integer
phrase_of p.MoreIntegers = phrases.MoreIntegers
phrase_of p.Body = phrases.Body
phrase_of p.Block = phrases.Block
phrase_of p.Statements = phrases.Statements
phrase_of p.Give = phrases.Give
phrase_of p.Statement = phrases.Statement
phrase_of p.AfterName = phrases.AfterName
phrase_of p.Assigned = phrases.Assigned
phrase_of p.Else = phrases.Else
phrase_of p.Side = phrases.Side
phrase_of p.AfterTarget = phrases.AfterTarget
phrase_of p.Call = phrases.Call
phrase_of p.ArgumentList = phrases.ArgumentList
phrase_of p.SomeArguments = phrases.SomeArguments
phrase_of p.MoreArguments = phrases.MoreArguments
phrase_of p.Argument = phrases.Argument
phrase_of p.Element = phrases.Element
phrase_of (p.Operation level) = phrases.Operation level
phrase_of (p.FromOperand level) = phrases.FromOperand level
phrase_of p.Operand = phrases.Operand
phrase_of p.Index = phrases.Index

-- an item of the grammar
abbrev pub Piece : Type 0
Piece = grammar.Item kinds.Terminal phrases.Phrase

-- the item
abbrev pub item_of : Item → Piece
item_of (i.Take terminal) = grammar.Take (terminal_of terminal)
item_of (i.Part phrase) = grammar.Part (phrase_of phrase)

-- the items
abbrev pub items_of : List Item → List Piece
items_of items = map item_of items

-- the items of each row
abbrev pub rows_of : List Row → List (List Piece)
rows_of rows = map (λ row. items_of row.items.now) rows

-- the items of each row of a part
abbrev pub rows_in : phrases.Phrase → List (List Piece)
rows_in n = map (λ row. row.items) (language.rows n)

-- the items that are to come, of a stack whose last item comes first
abbrev pub to_come : List Item → List Piece
to_come stack = reverse (items_of stack)
