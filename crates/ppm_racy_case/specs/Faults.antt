-- The faults of a text that is of no case: where each comes. Arrays have the faults that `ppm_case` gives them.
use Rattle.std.specs.Prelude.{◌<◌, ℕ, ◌+◌, false, ◌≡◌, List, length, map}
use Rattle.ppm_listing_reader.specs.declared.listing_error.Fault.{Fault as ListingFault}
use Rattle.ppm_depth.specs.Start.{NamesArrays}
use Rattle.ppm_case.specs.declared.case_error.InputFault.{InputFault}
use Rattle.ppm_case.specs.declared.case_error.InputFault.TheVariants as input
use Rattle.ppm_case.specs.declared.case_error.CaseFault.{CaseFault}
use Rattle.ppm_case.specs.declared.case_error.CaseFault.TheVariants as fault
use Rattle.ppm_case.specs.declared.case_error.CaseError.{CaseError}
use Rattle.ppm_case.specs.declared.case_error.CaseError.TheVariants as error
use Rattle.ppm_case.specs.Spelling.{array_of, begins_array}
use Rattle.ppm_case.specs.Rules.{case_limit}
use Rattle.ppm_case.specs.Case.{Front}
use Rattle.ppm_case.specs.Faults.{IsBadLine}
use Rattle.ppm_racy.specs.declared.code.RacyParts.{RacyParts}
use Rattle.ppm_racy.specs.Code.{plain_code}
use Rattle.ppm_racy_listing.specs.Correct.{IsRacyListing, IsFirstRacyFault}

-- A text has a fault at a line, counted from 1: it is too long, which is a fault of its first line; or after lines of arrays stands a bad one; or
-- there stands no listing, with its first fault; or its root, which is the second line of a listing, names an array that is not there.
pub data HasRacyCaseFault (text : List ℕ) : CaseFault → (line : ℕ) → Type 0 where
  TooLong : case_limit < length text → HasRacyCaseFault text (fault.OfInput input.TooMuch) 1
  BadLine : (f : Front text) (bad : InputFault) → IsBadLine (map array_of f.arrays) f.rest bad
      → HasRacyCaseFault text (fault.OfInput bad) (length f.arrays + 1)
  BadListing : (f : Front text) (rule : ListingFault) (line : ℕ) → begins_array f.rest ≡ false → IsFirstRacyFault f.rest rule line
      → HasRacyCaseFault text (fault.OfListing rule) (length f.arrays + line)
  BadRoot : (f : Front text) (code : RacyParts) → IsRacyListing f.rest code → (NamesArrays (plain_code code) (map array_of f.arrays) → ⊥)
      → HasRacyCaseFault text (fault.OfInput input.NotThere) (length f.arrays + 2)

-- a refusal is the fault of the text; that memory was refused is none
abbrev pub IsRacyCaseRefusal : List ℕ → CaseError → Type 0
IsRacyCaseRefusal text (error.Refused found line) = HasRacyCaseFault text found line
IsRacyCaseRefusal text error.NoMemory = Unit {0}
