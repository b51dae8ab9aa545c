-- The parts of a text.
use Rattle.std.specs.Prelude.{◌≡◌, ℕ, List, [], ◌∷◌, refl, Some}
use Rattle.ppm_grammar.specs.Rows.{Listing, element}
use Rattle.ppm_rows.specs.declared.level.Level.{Level}
use Rattle.ppm_rows.specs.declared.level.Level.TheVariants as level

-- the parts of a text, whole ones before those that they are made of: an operation of a level is an operand and what goes on from it
pub data Phrase : Type 0 where
  Source : Phrase
  Declaration : Phrase
  Length : Phrase
  Words : Phrase
  ParameterList : Phrase
  SomeParameters : Phrase
  MoreParameters : Phrase
  Parameter : Phrase
  Mode : Phrase
  Integer : Phrase
  MoreIntegers : Phrase
  Body : Phrase
  Block : Phrase
  Statements : Phrase
  Give : Phrase
  Statement : Phrase
  AfterName : Phrase
  Assigned : Phrase
  Else : Phrase
  Side : Phrase
  AfterTarget : Phrase
  Call : Phrase
  ArgumentList : Phrase
  SomeArguments : Phrase
  MoreArguments : Phrase
  Argument : Phrase
  Element : Phrase
  Operation : (level : Level) → Phrase
  FromOperand : (level : Level) → Phrase
  Operand : Phrase
  Index : Phrase

-- a whole expression
abbrev pub Expression : Phrase
Expression = Operation level.Either

-- the operands of a level
abbrev pub operand : Level → Phrase
operand level.Either = Operation level.Both
operand level.Both = Operation level.Comparison
operand level.Comparison = Operation level.Sum
operand level.Sum = Operation level.Product
operand level.Product = Operand

-- all parts
abbrev pub all_phrases : List Phrase
all_phrases =
    Source ∷ Declaration ∷ Length ∷ Words ∷ ParameterList ∷ SomeParameters ∷ MoreParameters ∷ Parameter ∷ Mode ∷ Integer ∷ MoreIntegers ∷ Body ∷ Block ∷ Statements ∷ Give ∷ Statement ∷ AfterName ∷ Assigned ∷ Else ∷ Side ∷ AfterTarget ∷ Call ∷ ArgumentList ∷ SomeArguments ∷ MoreArguments ∷ Argument ∷ Element ∷ Operation level.Either ∷ FromOperand level.Either ∷ Operation level.Both ∷ FromOperand level.Both ∷ Operation level.Comparison ∷ FromOperand level.Comparison ∷ Operation level.Sum ∷ FromOperand level.Sum ∷ Operation level.Product ∷ FromOperand level.Product ∷ Operand ∷ Index ∷ []

-- where a part stands among them
abbrev pub phrase_number : Phrase → ℕ
phrase_number Source = 0
phrase_number Declaration = 1
phrase_number Length = 2
phrase_number Words = 3
phrase_number ParameterList = 4
phrase_number SomeParameters = 5
phrase_number MoreParameters = 6
phrase_number Parameter = 7
phrase_number Mode = 8
phrase_number Integer = 9
phrase_number MoreIntegers = 10
phrase_number Body = 11
phrase_number Block = 12
phrase_number Statements = 13
phrase_number Give = 14
phrase_number Statement = 15
phrase_number AfterName = 16
phrase_number Assigned = 17
phrase_number Else = 18
phrase_number Side = 19
phrase_number AfterTarget = 20
phrase_number Call = 21
phrase_number ArgumentList = 22
phrase_number SomeArguments = 23
phrase_number MoreArguments = 24
phrase_number Argument = 25
phrase_number Element = 26
phrase_number (Operation level.Either) = 27
phrase_number (FromOperand level.Either) = 28
phrase_number (Operation level.Both) = 29
phrase_number (FromOperand level.Both) = 30
phrase_number (Operation level.Comparison) = 31
phrase_number (FromOperand level.Comparison) = 32
phrase_number (Operation level.Sum) = 33
phrase_number (FromOperand level.Sum) = 34
phrase_number (Operation level.Product) = 35
phrase_number (FromOperand level.Product) = 36
phrase_number Operand = 37
phrase_number Index = 38

-- each part is listed
abbrev pub phrase_listed : (n : Phrase) → element all_phrases (phrase_number n) ≡ Some n
phrase_listed Source = refl
phrase_listed Declaration = refl
phrase_listed Length = refl
phrase_listed Words = refl
phrase_listed ParameterList = refl
phrase_listed SomeParameters = refl
phrase_listed MoreParameters = refl
phrase_listed Parameter = refl
phrase_listed Mode = refl
phrase_listed Integer = refl
phrase_listed MoreIntegers = refl
phrase_listed Body = refl
phrase_listed Block = refl
phrase_listed Statements = refl
phrase_listed Give = refl
phrase_listed Statement = refl
phrase_listed AfterName = refl
phrase_listed Assigned = refl
phrase_listed Else = refl
phrase_listed Side = refl
phrase_listed AfterTarget = refl
phrase_listed Call = refl
phrase_listed ArgumentList = refl
phrase_listed SomeArguments = refl
phrase_listed MoreArguments = refl
phrase_listed Argument = refl
phrase_listed Element = refl
phrase_listed (Operation level.Either) = refl
phrase_listed (FromOperand level.Either) = refl
phrase_listed (Operation level.Both) = refl
phrase_listed (FromOperand level.Both) = refl
phrase_listed (Operation level.Comparison) = refl
phrase_listed (FromOperand level.Comparison) = refl
phrase_listed (Operation level.Sum) = refl
phrase_listed (FromOperand level.Sum) = refl
phrase_listed (Operation level.Product) = refl
phrase_listed (FromOperand level.Product) = refl
phrase_listed Operand = refl
phrase_listed Index = refl

-- the parts
abbrev pub phrases : Listing Phrase
phrases = record { all = all_phrases; number = phrase_number; listed = phrase_listed }
