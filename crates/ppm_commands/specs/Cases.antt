-- What `depth` and `races` say of cases: the answers of a text, and that what is told of an instruction is its line. The refusals of a text that is of no
-- case are those of `ppm_loading`.
use Rattle.std.specs.Prelude.{◌≡◌, ◌≤◌, ℕ, ◌-◌, List, [], ◌∷◌, ◌++◌, length, slice_get, Some, ⊤}
use Rattle.ppm_words.specs.declared.named_array.NamedArray.{NamedArray}
use Rattle.ppm_code.specs.declared.code.CodeParts.{CodeParts}
use Rattle.ppm_code.specs.declared.instr.Instr.{Instr}
use Rattle.ppm_code.specs.Strands.{instrs_of}
use Rattle.ppm_pieces.specs.Pieces.{split}
use Rattle.ppm_listing.specs.Listing.{instr_line}
use Rattle.ppm_listing.specs.Tokens.{line_text}
use Rattle.ppm_case.specs.Case.{IsCaseOf}
use Rattle.ppm_case.specs.Correct.{HasCase}
use Rattle.ppm_answers.specs.declared.answer.Answer.{Answer}
use Rattle.ppm_answers.specs.declared.answer.Answer.TheVariants as answers
use Rattle.ppm_loading.specs.Cases.{RefusesInput, RefusesListing}
use Rattle.ppm_loading.specs.Telling.{line_at}

-- a line, which ends with a line feed, stands in a text at a number, counted from 1: without the line feed it is that piece between line feeds
pub record HasLine (text : List ℕ) (number : ℕ) (line : List ℕ) : Type 0 where
  pub bytes : List ℕ
  pub from_one : 1 ≤ number
  pub there : slice_get (split 10 text) (number - 1) ≡ Some bytes
  pub ended : line ≡ bytes ++ 10 ∷ []

-- each instruction of a case's code stands in the line of the text that is told of it
abbrev pub InstructionsHaveTheirLines : Type 0
InstructionsHaveTheirLines = (text : List ℕ) (code : CodeParts) (input : List NamedArray) → IsCaseOf text code input → (capsule at : ℕ) (i : Instr)
    → slice_get (instrs_of code capsule) at ≡ Some i → HasLine text (line_at (length input) code capsule at) (line_text (instr_line i))

-- the answer that a text has, of those that a case may have: its fault, or an answer of its case
abbrev pub HasOfCase : (CodeParts → List NamedArray → Answer → Type 0) → List ℕ → Answer → Type 0
HasOfCase Of text (answers.InputRefused r) = RefusesInput text r
HasOfCase Of text (answers.ListingRefused r) = RefusesListing text r
HasOfCase Of text answer = (c : HasCase text) × Of c.code c.input answer

-- an answer that a case has, or want of memory
abbrev pub MayOf : (CodeParts → List NamedArray → Answer → Type 0) → CodeParts → List NamedArray → Answer → Type 0
MayOf Of code input answers.NoMemory = ⊤
MayOf Of code input answer = Of code input answer
