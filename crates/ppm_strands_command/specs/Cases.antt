-- What a command answers of a text that runs the strands of its case, which may race.
use Rattle.std.specs.Prelude.{◌≡◌, ◌⊎◌, ℕ, List, ⊤}
use Rattle.ppm_words.specs.declared.named_array.NamedArray.{NamedArray}
use Rattle.ppm_listing_reader.specs.ErrorNumbers.{fault_number}
use Rattle.ppm_listing_reader.specs.declared.listing_error.Fault.{Fault}
use Rattle.ppm_case.specs.Faults.{input_number}
use Rattle.ppm_case.specs.declared.case_error.CaseFault.TheVariants as faults
use Rattle.ppm_case.specs.declared.case_error.InputFault.{InputFault}
use Rattle.ppm_code.specs.Tidy.{IsTidy}
use Rattle.ppm_racy.specs.declared.code.RacyParts.{RacyParts}
use Rattle.ppm_racy.specs.Code.{plain_code}
use Rattle.ppm_racy_case.specs.Correct.{HasRacyCase}
use Rattle.ppm_racy_case.specs.Faults.{HasRacyCaseFault}
use Rattle.ppm_answers.specs.declared.case.InputRefusal.{InputRefusal}
use Rattle.ppm_answers.specs.declared.case.UntidyStore.{UntidyStore}
use Rattle.ppm_answers.specs.declared.conflict.ListingRefusal.{ListingRefusal}
use Rattle.ppm_answers.specs.declared.answer.Answer.{Answer}
use Rattle.ppm_answers.specs.declared.answer.Answer.TheVariants as answers
use Rattle.ppm_loading.specs.Telling.{IsUntidy}

-- the text is of no case, for this fault of its arrays or of its root
pub record RefusesInput (text : List ℕ) (r : InputRefusal) : Type 0 where
  pub fault : InputFault
  pub there : HasRacyCaseFault text (faults.OfInput fault) r.line
  pub number_is : r.number ≡ input_number fault

-- or for this fault of its listing
pub record RefusesListing (text : List ℕ) (r : ListingRefusal) : Type 0 where
  pub fault : Fault
  pub there : HasRacyCaseFault text (faults.OfListing fault) r.line
  pub number_is : r.number ≡ fault_number fault

-- A code whose strands may race is tidy if it is so with a put in place of each exchange: both may trap, and neither stores into a new block. Where it is
-- not, the answer of a case tells the first store that is not tidy.
pub record TellsStore (code : RacyParts) (input : List NamedArray) (answer : Answer) : Type 0 where
  pub store : UntidyStore
  pub is : IsUntidy (plain_code code) input store
  pub tells : answer ≡ answers.Untidy store

-- the answer of a case, by those of tidy codes: one of these, or its first store that is not tidy
abbrev pub OfTidy : (RacyParts → List NamedArray → Answer → Type 0) → RacyParts → List NamedArray → Answer → Type 0
OfTidy Of code input answer = IsTidy (plain_code code) × Of code input answer ⊎ TellsStore code input answer

-- the answer of a text, by those of codes on inputs: its case's, or its refusal
abbrev pub HasOfCase : (RacyParts → List NamedArray → Answer → Type 0) → List ℕ → Answer → Type 0
HasOfCase Of text (answers.InputRefused r) = RefusesInput text r
HasOfCase Of text (answers.ListingRefused r) = RefusesListing text r
HasOfCase Of text answer = (c : HasRacyCase text) × Of c.code c.input answer

-- that of a text that has none
abbrev pub RefusedHas : List ℕ → Answer → Type 0
RefusedHas text answer = HasOfCase (λ code input a. ⊥) text answer

-- an answer that a case has, or want of memory
abbrev pub MayOf : (RacyParts → List NamedArray → Answer → Type 0) → RacyParts → List NamedArray → Answer → Type 0
MayOf Of code input answers.NoMemory = ⊤
MayOf Of code input answer = Of code input answer
