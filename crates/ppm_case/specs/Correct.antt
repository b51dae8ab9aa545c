-- What holds of each text of a case: it has one case or one first fault; and what is written of a case is read as it.
use Rattle.std.specs.Prelude.{◌≡◌, ◌<◌, ◌≤◌, ℕ, true, List, ◌++◌, length, map, FitsSigned}
use Rattle.std.specs.Int.{w64}
use Rattle.std.specs.List.{All, IsDistinct}
use Rattle.std.specs.Str.{bytes_eq}
use Rattle.ppm_words.specs.Inputs.{IsInput}
use Rattle.ppm_words.specs.declared.named_array.NamedArray.{NamedArray}
use Rattle.ppm_code.specs.declared.code.CodeParts.{CodeParts}
use Rattle.ppm_code.specs.Code.{IsCode}
use Rattle.ppm_listing.specs.Correct.{NumbersFit}
use Rattle.ppm_depth.specs.Start.{NamesArrays}
use Rattle.ppm_case.specs.declared.case_error.CaseFault.{CaseFault}
use Rattle.ppm_case.specs.Spelling.{is_array_name}
use Rattle.ppm_case.specs.Rules.{case_limit}
use Rattle.ppm_case.specs.Case.{IsCaseOf}
use Rattle.ppm_case.specs.Faults.{HasFault}
use Rattle.ppm_case.specs.Text.{case_text}

-- a case that can be written and read again: its numbers fit 64 bits, and its arrays have names of their own
pub record CanBeRead (code : CodeParts) (input : List NamedArray) : Type 0 where
  pub code_is : IsCode code
  pub numbers : NumbersFit code
  pub input_is : IsInput input
  pub values : All (λ a. All (FitsSigned w64) a.values) input
  pub names : All (λ a. is_array_name a.name ≡ true) input
  pub differ : IsDistinct bytes_eq (map (λ a. a.name) input)
  pub named : NamesArrays code input

-- the code and the input of a text
pub record HasCase (text : List ℕ) : Type 0 where
  pub code : CodeParts
  pub input : List NamedArray
  pub is : IsCaseOf text code input

-- The text of a case has no fault, and is of one case. A text has one fault at most, and without one it is of a case. A text that is too long is of
-- no case, and what stands after it changes no fault.
pub record FaultsTellCases : Type 0 where
  pub excludes : (text : List ℕ) (code : CodeParts) (input : List NamedArray) (f : CaseFault) (line : ℕ) → IsCaseOf text code input
      → HasFault text f line → ⊥
  pub covers : (text : List ℕ) → ((f : CaseFault) (line : ℕ) → HasFault text f line → ⊥) → HasCase text
  pub short : (text : List ℕ) (code : CodeParts) (input : List NamedArray) → IsCaseOf text code input → length text ≤ case_limit
  pub front : (text rest : List ℕ) (f : CaseFault) (line : ℕ) → case_limit < length text → HasFault text f line → HasFault (text ++ rest) f line
  pub one_case : (text : List ℕ) (c d : CodeParts) (xs ys : List NamedArray) → IsCaseOf text c xs → IsCaseOf text d ys → (c ≡ d) × (xs ≡ ys)
  pub one_fault : (text : List ℕ) (f g : CaseFault) (line later : ℕ) → HasFault text f line → HasFault text g later → (f ≡ g) × (line ≡ later)

-- what is written of a case is of it: it is never too long
abbrev pub WrittenCasesAreRead : Type 0
WrittenCasesAreRead = (code : CodeParts) (input : List NamedArray) → CanBeRead code input → IsCaseOf (case_text code input) code input
