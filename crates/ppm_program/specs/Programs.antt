-- The program of a text: its tokens, their tree within the limits, and the rules that the tree keeps.
use Rattle.std.specs.Prelude.{ℕ, ◌≤◌, List, length}
use Rattle.ppm_text.specs.declared.token.Token.{Token}
use Rattle.ppm_text.specs.Limits.{text_limit}
use Rattle.ppm_text.specs.Lexing.{IsTextOf}
use Rattle.ppm_tree.specs.Tree.{ProgramTree}
use Rattle.ppm_rows.specs.Correct.{HasTree}
use Rattle.ppm_regions.specs.Admission.{IsAdmitted}
use Rattle.ppm_cut_bounds.specs.Bounds.{IsWithinBounds}

-- the text has these tokens
pub record HasTokens (text : List ℕ) (tokens : List Token) : Type 0 where
  pub short : length text ≤ text_limit
  pub lexed : IsTextOf text tokens

-- by its tokens the text has this tree, within the limits
pub record IsTreeOf (text : List ℕ) (t : ProgramTree) : Type 0 where
  pub tokens : List Token
  pub lexed : HasTokens text tokens
  pub tree : HasTree tokens t

-- the text has this tree, which keeps the rules of names and regions
pub record IsAdmittedTreeOf (text : List ℕ) (t : ProgramTree) : Type 0 where
  pub tree : IsTreeOf text t
  pub admitted : IsAdmitted t

-- and the bounds of the compiler
pub record HasProgram (text : List ℕ) (t : ProgramTree) : Type 0 where
  pub admitted : IsAdmittedTreeOf text t
  pub bounded : IsWithinBounds t
