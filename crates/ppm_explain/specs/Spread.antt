-- The token at which a rule of names and regions is broken. A refusal of these names a line; of the text with each token in a line of its own, a token.
use Rattle.std.specs.Prelude.{ℕ, ◌-◌, ◌==◌, ◌&&◌, Bool, true, false, if◌then◌else◌, List, [], ◌∷◌, ◌++◌, codes, Option, Some, None}
use Rattle.ppm_text.specs.declared.token.Token.{Token}
use Rattle.ppm_tree.specs.Tree.{ProgramTree}
use Rattle.ppm_printer.specs.Spelled.{token_text}
use Rattle.ppm_answers.specs.declared.refusal.Pass.{Pass}
use Rattle.ppm_answers.specs.declared.refusal.Pass.TheVariants as pass
use Rattle.ppm_answers.specs.declared.refusal.Refusal.{Refusal}
use Rattle.ppm_program.specs.Programs.{HasProgram}
use Rattle.ppm_program.specs.Refusals.{IsRefusal}

-- a token in a line of its own
abbrev pub alone : Token → List ℕ
alone t = token_text t.kind ++ codes "\n"

-- the text with each of these tokens in a line of its own: the line of a token there is its number
abbrev pub spread : List Token → List ℕ
spread [] = []
spread (t ∷ ts) = alone t ++ spread ts

-- the text has a program
pub record HasSomeProgram (text : List ℕ) : Type 0 where
  pub tree : ProgramTree
  pub program : HasProgram text tree

-- the one reason for which the text is refused; where there is none, it has a program
abbrev pub IsJudged : List ℕ → Option Refusal → Type 0
IsJudged text None = HasSomeProgram text
IsJudged text (Some r) = IsRefusal text r

-- the token with this number, from 1
abbrev pub numbered : ℕ → List Token → Option Token
numbered n [] = None
numbered n (t ∷ ts) = if n == 1 then Some t else numbered (n - 1) ts

-- whether it is the pass of names and regions
abbrev pub is_region : Pass → Bool
is_region pass.Region = true
is_region pass.Text = false
is_region pass.Syntax = false
is_region pass.Cut = false
is_region pass.Ram = false

-- whether a refusal of the spread text, which names this token, is for the rule and the line of the text's own
abbrev pub agrees : Refusal → Refusal → Token → Bool
agrees r s t = is_region s.pass && s.number == r.number && t.line == r.place

-- the token, if it is
abbrev pub agreed : Refusal → Refusal → Option Token → Option Token
agreed r s None = None
agreed r s (Some t) = if agrees r s t then Some t else None

-- the token at which the rule of a refusal is broken, by how the spread text is judged
abbrev pub faulty : Refusal → List Token → Option Refusal → Option Token
faulty r tokens None = None
faulty r tokens (Some s) = agreed r s (numbered s.place tokens)
