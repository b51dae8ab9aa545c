-- The tree of tokens, or their fault.
use Rattle.std.specs.Prelude.{◌≡◌, ◌⊎◌, ◌≤◌, ℕ, List}
use Rattle.std.specs.List.{All}
use Rattle.ppm_grammar.specs.Faults.{Fault}
use Rattle.ppm_grammar.specs.Faults as of_grammar
use Rattle.ppm_text.specs.declared.token.Token.{Token}
use Rattle.ppm_text.specs.Limits.{text_limit}
use Rattle.ppm_text.specs.Tokens.{StandsIn}
use Rattle.ppm_tree.specs.Tree.{ProgramTree}
use Rattle.ppm_tree.specs.Limits.{IsWithin}
use Rattle.ppm_rows.specs.Values.{Program}
use Rattle.ppm_rows.specs.Language.{language}
use Rattle.ppm_rows.specs.Limits.{limits}

-- the tokens are a text of the grammar with this tree, and none of them passes a limit
abbrev pub HasTree : List Token → ProgramTree → Type 0
HasTree ts tree = of_grammar.HasTree language limits ts (Program tree)

-- the tokens have this fault, and none in front of it
abbrev pub HasFault : List Token → Fault → Type 0
HasFault ts fault = of_grammar.HasFault language limits ts fault

-- tokens have one tree at most; they have a tree or a fault, never both, and one fault at most
pub record HasOneAnswer (ts : List Token) : Type 0 where
  pub tree : (s t : ProgramTree) → HasTree ts s → HasTree ts t → s ≡ t
  pub fault : (e f : Fault) → HasFault ts e → HasFault ts f → e ≡ f
  pub either : (t : ProgramTree) (e : Fault) → HasTree ts t → HasFault ts e → ⊥
  pub one : ((t : ProgramTree) × HasTree ts t) ⊎ ((e : Fault) × HasFault ts e)

-- all tokens have one answer: a tree or a fault
abbrev pub TokensHaveOneAnswer : Type 0
TokensHaveOneAnswer = (ts : List Token) → HasOneAnswer ts

-- a tree of tokens that stand in a text is within the limits on trees
abbrev pub TreesAreWithin : Type 0
TreesAreWithin = (size : ℕ) (ts : List Token) (t : ProgramTree) → size ≤ text_limit → All (StandsIn size) ts → HasTree ts t → IsWithin t
