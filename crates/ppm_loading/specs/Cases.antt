-- What a command answers of a text that runs its case: a code on an input.
use Rattle.std.specs.Prelude.{◌≡◌, ℕ, List}
use Rattle.ppm_words.specs.declared.named_array.NamedArray.{NamedArray}
use Rattle.ppm_ports.specs.Ports.{Port}
use Rattle.ppm_code.specs.declared.code.CodeParts.{CodeParts}
use Rattle.ppm_listing_reader.specs.ErrorNumbers.{fault_number}
use Rattle.ppm_listing_reader.specs.declared.listing_error.Fault.{Fault}
use Rattle.ppm_case.specs.Case.{IsCaseOf}
use Rattle.ppm_case.specs.Rules.{case_limit}
use Rattle.ppm_case.specs.Faults.{HasFault, input_number}
use Rattle.ppm_case.specs.declared.case_error.CaseFault.{CaseFault}
use Rattle.ppm_case.specs.declared.case_error.CaseFault.TheVariants as faults
use Rattle.ppm_case.specs.declared.case_error.InputFault.{InputFault}
use Rattle.ppm_answers.specs.declared.answer.Answer.{Answer}
use Rattle.ppm_answers.specs.declared.answer.Answer.TheVariants as answers
use Rattle.ppm_answers.specs.Reading.{Reads, JudgingMay}
use Rattle.ppm_answers.specs.declared.case.InputRefusal.{InputRefusal}
use Rattle.ppm_answers.specs.declared.conflict.ListingRefusal.{ListingRefusal}

-- the text is that of a code with its input, and this holds of them
pub record OfCase (text : List ℕ) (Has : CodeParts → List NamedArray → Type 0) : Type 0 where
  pub code : CodeParts
  pub input : List NamedArray
  pub is : IsCaseOf text code input
  pub has : Has code input

-- the text is of no case, for this fault of its arrays or of its root
pub record RefusesInput (text : List ℕ) (r : InputRefusal) : Type 0 where
  pub fault : InputFault
  pub there : HasFault text (faults.OfInput fault) r.line
  pub number_is : r.number ≡ input_number fault

-- or for this fault of its listing
pub record RefusesListing (text : List ℕ) (r : ListingRefusal) : Type 0 where
  pub fault : Fault
  pub there : HasFault text (faults.OfListing fault) r.line
  pub number_is : r.number ≡ fault_number fault

-- the answer for a fault at a line
abbrev pub refusal_of : CaseFault → (line : ℕ) → Answer
refusal_of (faults.OfInput f) line = answers.InputRefused (record { number = input_number f; line = line })
refusal_of (faults.OfListing f) line = answers.ListingRefused (record { number = fault_number f; line = line })

-- the answer of a text, by those of codes on inputs: its case's, or its refusal
abbrev pub TextHas : (Has : CodeParts → List NamedArray → Answer → Type 0) → List ℕ → Answer → Type 0
TextHas Has text (answers.InputRefused r) = RefusesInput text r
TextHas Has text (answers.ListingRefused r) = RefusesListing text r
TextHas Has text answer = OfCase text (λ code input. Has code input answer)

-- the answer of a text that has none: its refusal
abbrev pub RefusedHas : List ℕ → Answer → Type 0
RefusedHas text answer = TextHas (λ code input a. ⊥) text answer

-- the text that was read is that of this code with this input
abbrev pub ReadsCase : Port → CodeParts → List NamedArray → Type 0
ReadsCase source code input = (text : List ℕ) × Reads case_limit source text × IsCaseOf text code input

-- the answers where the text that was read is of no case, or was not read
abbrev pub NoCaseMay : Port → Answer → Type 0
NoCaseMay source answer = JudgingMay case_limit RefusedHas source answer
