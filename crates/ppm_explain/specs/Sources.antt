-- What is said of a source that is refused, after the line of the refusal.
use Rattle.std.specs.Prelude.{◌≡◌, ◌≤◌, ◌<◌, ◌==◌, ℕ, if◌then◌else◌, Bool, List, [], ◌∷◌, ◌++◌, Option, Some, None}
use Rattle.std.specs.List.{AllPairs}
use Rattle.ppm_grammar.specs.Faults.{IsFirstUnexpected, IsEnded}
use Rattle.ppm_text.specs.declared.token.Token.{Token}
use Rattle.ppm_tree.specs.Tree.{ProgramTree}
use Rattle.ppm_rows.specs.Correct.{HasTree}
use Rattle.ppm_rows.specs.Kinds.{Terminal, terminal_number}
use Rattle.ppm_rows.specs.Language.{language}
use Rattle.ppm_rows.specs.Limits.{limits}
use Rattle.ppm_expected.specs.Next.{AreExpected, BeginsText}
use Rattle.ppm_answers.specs.declared.refusal.Pass.{Pass}
use Rattle.ppm_answers.specs.declared.refusal.Pass.TheVariants as pass
use Rattle.ppm_answers.specs.declared.refusal.Refusal.{Refusal}
use Rattle.ppm_program.specs.Programs.{HasTokens}
use Rattle.ppm_explain.specs.declared.declaring.Before.TheVariants as before
use Rattle.ppm_explain.specs.Places.{spot_text, line_text, line_bytes, shown_text}
use Rattle.ppm_explain.specs.Words.{token_in, found_text, expected_text}
use Rattle.ppm_explain.specs.Meanings.{meaning_text}
use Rattle.ppm_explain.specs.Hints.{hint_text}
use Rattle.ppm_explain.specs.Names.{names_text, named_text, heading_above, heading_before, heading_at, procedure_text}
use Rattle.ppm_explain.specs.Lendings.{lent_text}
use Rattle.ppm_explain.specs.Spread.{spread, IsJudged, faulty}
use Rattle.ppm_explain.specs.Bounds.{count_text}

-- the place of a fault of bytes; where the text is too long nothing
abbrev pub bytes_spot : List ℕ → Refusal → List ℕ
bytes_spot text r = if r.number == 5 then [] else spot_text text r.place

-- of a fault of bytes: its place
abbrev pub bytes_notes : List ℕ → Refusal → List ℕ
bytes_notes text r = bytes_spot text r ++ meaning_text r

-- of a token that cannot come, or of the end: what stands there, what could, and a hint
abbrev pub stop_notes : List ℕ → List Token → (kinds : List Terminal) → (end : Bool) → Refusal → List ℕ
stop_notes text tokens kinds end r =
    spot_text text r.place ++ found_text (token_in r.place tokens) ++ expected_text kinds end ++ hint_text kinds (token_in r.place tokens)
    ++ meaning_text r

-- of a token that passes a limit: what stands there
abbrev pub limit_notes : List ℕ → List Token → Refusal → List ℕ
limit_notes text tokens r = spot_text text r.place ++ found_text (token_in r.place tokens) ++ meaning_text r

-- of a fault of names and regions: its line, the names in it, and the procedure around it; of a missing `main` none of these
abbrev pub line_notes : List ℕ → List Token → Refusal → List ℕ
line_notes text tokens r =
    if r.place == 0
    then meaning_text r
    else line_text r.place ++ shown_text (line_bytes text r.place) ++ names_text tokens r.place
    ++ procedure_text (heading_above None before.Other r.place tokens) ++ meaning_text r

-- of a fault whose token is known: its place, the token, what is said of its name, where it is lent before, and the procedure around it
abbrev pub token_notes : List ℕ → List Token → Token → Refusal → List ℕ
token_notes text tokens t r =
    spot_text text t.place ++ found_text (Some t) ++ named_text tokens t.line t.kind ++ lent_text text tokens t r.number
    ++ procedure_text (heading_before None before.Other t.place tokens) ++ meaning_text r

-- of a fault of names and regions: by its token, or where that is not known by its line
abbrev pub fault_notes : List ℕ → List Token → Option Token → Refusal → List ℕ
fault_notes text tokens None r = line_notes text tokens r
fault_notes text tokens (Some t) r = token_notes text tokens t r

-- the procedure that passes a bound; of that on capsules, which all procedures share, none
abbrev pub bound_procedure : List Token → Refusal → List ℕ
bound_procedure tokens r = if r.number == 2 then [] else procedure_text (heading_at before.Other r.place tokens)

-- of a bound that is passed: the procedure, and the count
abbrev pub bound_notes : Refusal → List Token → ProgramTree → List ℕ
bound_notes r tokens tree = bound_procedure tokens r ++ count_text tree r ++ meaning_text r

-- the notes by the tokens of the text
pub record ByTokens (text : List ℕ) (notes_of : List Token → List ℕ) (notes : List ℕ) : Type 0 where
  pub tokens : List Token
  pub lexed : HasTokens text tokens
  pub is : notes ≡ notes_of tokens

-- the notes by the tokens of the text, and by their tree
pub record ByTree (text : List ℕ) (notes_of : List Token → ProgramTree → List ℕ) (notes : List ℕ) : Type 0 where
  pub tokens : List Token
  pub lexed : HasTokens text tokens
  pub tree : ProgramTree
  pub derived : HasTree tokens tree
  pub is : notes ≡ notes_of tokens tree

-- The notes by the tokens of the text, and by the one at which the rule is broken: the one that the same rule names where each token has a
-- line of its own.
pub record ByFault (text : List ℕ) (r : Refusal) (notes : List ℕ) : Type 0 where
  pub tokens : List Token
  pub lexed : HasTokens text tokens
  pub judged : Option Refusal
  pub judges : IsJudged (spread tokens) judged
  pub is : notes ≡ fault_notes text tokens (faulty r tokens judged) r

-- the tokens begin a text of the grammar up to some place and no further
pub record GoTo (tokens front rest : List Token) : Type 0 where
  pub shape : tokens ≡ front ++ rest
  pub begins : BeginsText language front
  pub ends : (t : Token) (more : List Token) → rest ≡ t ∷ more → BeginsText language (front ++ t ∷ []) → ⊥

-- just the tokens of these kinds can stand after them, in the order of the grammar's kinds and each once, and it is told whether a text may end there
pub record Follow (front : List Token) (kinds : List Terminal) (end : Bool) : Type 0 where
  pub exactly : AreExpected language front kinds end
  pub order : AllPairs (λ x y. terminal_number x < terminal_number y) kinds

-- The notes by the tokens, and by what could stand where these go no further: just the tokens with which some text of the grammar goes on
-- from those in front. At a token that cannot come that is its place, and so it is at the end.
pub record ByStop (text : List ℕ) (r : Refusal) (notes : List ℕ) : Type 0 where
  pub tokens : List Token
  pub lexed : HasTokens text tokens
  pub front : List Token
  pub rest : List Token
  pub goes : GoTo tokens front rest
  pub kinds : List Terminal
  pub end : Bool
  pub follows : Follow front kinds end
  pub unexpected : (place : ℕ) (fault : IsFirstUnexpected language limits tokens place) → Follow fault.front kinds end
  pub ended : IsEnded language limits tokens → Follow tokens kinds end
  pub is : notes ≡ stop_notes text tokens kinds end r

-- the notes of a fault of tokens: of the numbers 1 and 2 with what could stand there
pub record BySyntax (text : List ℕ) (r : Refusal) (notes : List ℕ) : Type 0 where
  pub stops : r.number < 3 → ByStop text r notes
  pub passes : 3 ≤ r.number → ByTokens text (λ tokens. limit_notes text tokens r) notes

-- the notes of a refusal, by its pass
abbrev pub ExplainedBy : Pass → List ℕ → Refusal → List ℕ → Type 0
ExplainedBy pass.Text text r notes = notes ≡ bytes_notes text r
ExplainedBy pass.Syntax text r notes = BySyntax text r notes
ExplainedBy pass.Region text r notes = ByFault text r notes
ExplainedBy pass.Cut text r notes = ByTree text (bound_notes r) notes
ExplainedBy pass.Ram text r notes = notes ≡ meaning_text r

-- these are the notes of a text that is refused for this reason
abbrev pub AreNotes : List ℕ → Refusal → List ℕ → Type 0
AreNotes text r notes = ExplainedBy r.pass text r notes
