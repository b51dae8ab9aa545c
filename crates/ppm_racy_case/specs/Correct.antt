-- What holds of each text of a case whose strands may race: it has one case or one first fault.
use Rattle.std.specs.Prelude.{◌≡◌, ◌≤◌, ℕ, List, length}
use Rattle.ppm_words.specs.declared.named_array.NamedArray.{NamedArray}
use Rattle.ppm_case.specs.declared.case_error.CaseFault.{CaseFault}
use Rattle.ppm_case.specs.Rules.{case_limit}
use Rattle.ppm_racy.specs.declared.code.RacyParts.{RacyParts}
use Rattle.ppm_racy_case.specs.Case.{IsRacyCaseOf}
use Rattle.ppm_racy_case.specs.Faults.{HasRacyCaseFault}

-- the code and the input of a text
pub record HasRacyCase (text : List ℕ) : Type 0 where
  pub code : RacyParts
  pub input : List NamedArray
  pub is : IsRacyCaseOf text code input

-- The text of a case has no fault, and is of one case. A text has one fault at most, and without one it is of a case. A text that is too long is of
-- no case.
pub record RacyFaultsTellCases : Type 0 where
  pub excludes : (text : List ℕ) (code : RacyParts) (input : List NamedArray) (f : CaseFault) (line : ℕ) → IsRacyCaseOf text code input
      → HasRacyCaseFault text f line → ⊥
  pub covers : (text : List ℕ) → ((f : CaseFault) (line : ℕ) → HasRacyCaseFault text f line → ⊥) → HasRacyCase text
  pub short : (text : List ℕ) (code : RacyParts) (input : List NamedArray) → IsRacyCaseOf text code input → length text ≤ case_limit
  pub one_case : (text : List ℕ) (c d : RacyParts) (xs ys : List NamedArray) → IsRacyCaseOf text c xs → IsRacyCaseOf text d ys → (c ≡ d) × (xs ≡ ys)
  pub one_fault : (text : List ℕ) (f g : CaseFault) (line later : ℕ) → HasRacyCaseFault text f line → HasRacyCaseFault text g later
      → (f ≡ g) × (line ≡ later)
