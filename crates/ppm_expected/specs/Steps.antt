-- What the machine's functions answer: which row of a part comes, what a token leaves to come, and how far tokens can come.
use Rattle.std.specs.Prelude.{◌≡◌, ℕ, true, false, List, ◌∷◌, ◌++◌, Some}
use Rattle.ppm_grammar.specs.Rows.{In}
use Rattle.ppm_grammar.specs.Derivation.{Due, Within, beginning}
use Rattle.ppm_grammar.specs.Predictive.{can_start, starts}
use Rattle.ppm_grammar.specs.Stack.{Move, step}
use Rattle.ppm_text.specs.declared.token.Token.{Token}
use Rattle.ppm_rows.specs.Kinds.{Terminal, terminal}
use Rattle.ppm_rows.specs.Phrases.{Phrase}
use Rattle.ppm_rows.specs.Language.{Form, Counted, language}
use Rattle.ppm_expected.specs.Machine.{items_due, still, can_begin, comes_first}
use Rattle.ppm_expected.specs.Language.{Piece}

-- what is to come by the grammar of the language, and a move
abbrev pub Dues : Type 0
Dues = List (Due Terminal Phrase)

abbrev pub TokenMove : Type 0
TokenMove = Move Terminal Phrase Counted

-- the items are those of a row of the part, and can begin with a token of the kind
pub record BeginsRow (n : Phrase) (k : Terminal) (items : List Piece) : Type 0 where
  pub row : Form
  pub within : In row (language.rows n)
  pub is : row.items ≡ items
  pub can : can_start language (starts language) items k ≡ true

-- a token of the kind, with which the item begins, leaves the new items to come where the item was in front of the old ones
pub record Enters (x : Piece) (k : Terminal) (old new : List Piece) : Type 0 where
  pub leaves : (d : ℕ) (st : Dues) (m : TokenMove) → items_due st ≡ old → can_begin language x k ≡ true → step language (Within d x ∷ st) k ≡ Some m →
      items_due m.still ≡ new

-- a token of the kind leaves the new items to come where the old ones were
pub record Advances (k : Terminal) (old new : List Piece) : Type 0 where
  pub leaves : (st : Dues) (m : TokenMove) → items_due st ≡ old → step language st k ≡ Some m → items_due m.still ≡ new

-- the first of the tokens can come and leave these items to come, and the rest follows
pub record ReadsTo (ts : List Token) (items : List Piece) (rest : List Token) : Type 0 where
  pub front : List Token
  pub shape : ts ≡ front ++ rest
  pub left : Dues
  pub comes : still language (beginning language) front ≡ Some left
  pub due : items_due left ≡ items

-- of the tokens no more can come than those that leave these items to come
pub record StopsAt (ts : List Token) (items : List Piece) : Type 0 where
  pub rest : List Token
  pub reads : ReadsTo ts items rest
  pub stuck : (t : Token) (more : List Token) → rest ≡ t ∷ more → comes_first language items (terminal t.kind) ≡ false
