-- Which kinds of tokens may follow each part.
use Rattle.std.specs.Prelude.{◌≡◌, Bool, true, false, ◌||◌, ◌==◌, List, [], ◌∷◌, ◌++◌, map}
use Rattle.ppm_grammar.specs.Predictive.{is_predictive}
use Rattle.ppm_text.specs.declared.token.Keyword.TheVariants as word
use Rattle.ppm_text.specs.declared.token.Sign.TheVariants as sign
use Rattle.ppm_rows.specs.declared.level.Level.{Level}
use Rattle.ppm_rows.specs.declared.level.Level.TheVariants as level
use Rattle.ppm_rows.specs.Kinds.{Terminal, Name, Word, Mark, terminal_number}
use Rattle.ppm_rows.specs.Phrases.{Phrase}
use Rattle.ppm_rows.specs.Phrases as p
use Rattle.ppm_rows.specs.Operations.{operations}
use Rattle.ppm_rows.specs.Language.{language}

-- what begins a declaration
abbrev pub declarations : List Terminal
declarations = Word word.Array ∷ Word word.Proc ∷ Word word.Input ∷ []

-- what follows a statement: one more, what a body gives, or the end of the block
abbrev pub after_statement : List Terminal
after_statement =
    Name ∷ Word word.Let ∷ Word word.If ∷ Word word.While ∷ Word word.Call ∷ Word word.Fork ∷ Word word.Split ∷ Word word.Each ∷ Word word.Give
    ∷ Mark sign.CloseBrace ∷ []

-- what follows a side of a fork
abbrev pub after_side : List Terminal
after_side = Word word.And ∷ Mark sign.Semicolon ∷ []

-- what follows an expression
abbrev pub after_expression : List Terminal
after_expression =
    Word word.Into ∷ Mark sign.CloseBracket ∷ Mark sign.CloseParen ∷ Mark sign.OpenBrace ∷ Mark sign.Semicolon ∷ Mark sign.Comma ∷ []

-- the operators of a level
abbrev pub signs_of : Level → List Terminal
signs_of level = map (λ x. Mark x.sign) (operations level)

-- what follows an operation of a level
abbrev pub after_operation : Level → List Terminal
after_operation level.Either = after_expression
after_operation level.Both = signs_of level.Either ++ after_expression
after_operation level.Comparison = signs_of level.Both ++ signs_of level.Either ++ after_expression
after_operation level.Sum = signs_of level.Comparison ++ signs_of level.Both ++ signs_of level.Either ++ after_expression
after_operation level.Product =
    signs_of level.Sum ++ signs_of level.Comparison ++ signs_of level.Both ++ signs_of level.Either ++ after_expression

-- what may follow each part
abbrev pub followers : Phrase → List Terminal
followers p.Source = []
followers p.Declaration = declarations
followers p.Length = Mark sign.Semicolon ∷ []
followers p.Words = Mark sign.CloseBracket ∷ []
followers p.ParameterList = Mark sign.OpenBrace ∷ []
followers p.SomeParameters = Mark sign.CloseParen ∷ []
followers p.MoreParameters = Mark sign.CloseParen ∷ []
followers p.Parameter = Mark sign.CloseParen ∷ Mark sign.Comma ∷ []
followers p.Mode = Name ∷ []
followers p.Integer = Mark sign.Semicolon ∷ Mark sign.Comma ∷ []
followers p.MoreIntegers = Mark sign.Semicolon ∷ []
followers p.Body = declarations
followers p.Block = Word word.Else ∷ after_statement
followers p.Statements = Word word.Give ∷ Mark sign.CloseBrace ∷ []
followers p.Give = Mark sign.CloseBrace ∷ []
followers p.Statement = after_statement
followers p.AfterName = after_statement
followers p.Assigned = after_statement
followers p.Else = after_statement
followers p.Side = after_side
followers p.AfterTarget = after_side
followers p.Call = after_side
followers p.ArgumentList = after_side
followers p.SomeArguments = Mark sign.CloseParen ∷ []
followers p.MoreArguments = Mark sign.CloseParen ∷ []
followers p.Argument = Mark sign.CloseParen ∷ Mark sign.Comma ∷ []
followers p.Element = Mark sign.Assign ∷ []
followers (p.Operation level) = after_operation level
followers (p.FromOperand level) = after_operation level
followers p.Operand = signs_of level.Product ++ after_operation level.Product
followers p.Index = signs_of level.Product ++ after_operation level.Product

-- the kind is in the list
abbrev pub is_among : Terminal → List Terminal → Bool
is_among x [] = false
is_among x (y ∷ ys) = terminal_number x == terminal_number y || is_among x ys

-- a token of the kind may follow the part
abbrev pub may_follow : Phrase → Terminal → Bool
may_follow n x = is_among x (followers n)

-- one token tells which row of each part comes
abbrev pub LanguageIsPredictive : Type 0
LanguageIsPredictive = is_predictive language may_follow ≡ true
