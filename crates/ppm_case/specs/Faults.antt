-- The faults of a text that is of no case: where each comes, and its number.
use Rattle.std.specs.Prelude.{◌≡◌, ◌<◌, ℕ, ◌+◌, true, false, List, ◌++◌, length, map}
use Rattle.ppm_words.specs.declared.named_array.NamedArray.{NamedArray}
use Rattle.ppm_code.specs.declared.code.CodeParts.{CodeParts}
use Rattle.ppm_listing_reader.specs.declared.listing_error.Fault.{Fault as ListingFault}
use Rattle.ppm_listing_reader.specs.declared.listing_error.Fault.TheVariants as listing_fault
use Rattle.ppm_listing_reader.specs.declared.listing_error.ListingError.{ListingError}
use Rattle.ppm_listing_reader.specs.declared.listing_error.ListingError.TheVariants as listing
use Rattle.ppm_listing_reader.specs.Correct.{IsListing, IsFirstFault}
use Rattle.ppm_depth.specs.Start.{NamesArrays}
use Rattle.ppm_pieces.specs.Numbers.{value}
use Rattle.ppm_case.specs.declared.case_error.InputFault.{InputFault}
use Rattle.ppm_case.specs.declared.case_error.InputFault.TheVariants as input
use Rattle.ppm_case.specs.declared.case_error.CaseFault.{CaseFault}
use Rattle.ppm_case.specs.declared.case_error.CaseFault.TheVariants as fault
use Rattle.ppm_case.specs.declared.case_error.CaseError.{CaseError}
use Rattle.ppm_case.specs.declared.case_error.CaseError.TheVariants as error
use Rattle.ppm_case.specs.Spelling.{Written, has_form, array_line, array_of, begins_array}
use Rattle.ppm_case.specs.Rules.{case_limit, is_in_range, is_named, is_past}
use Rattle.ppm_case.specs.Case.{Front}

-- the number of each fault of an input: at one line the least decides
abbrev pub input_number : InputFault → ℕ
input_number input.NoSuchForm = 1
input_number input.OutOfRange = 2
input_number input.NamedTwice = 3
input_number input.TooMuch = 4
input_number input.NotThere = 5

-- what is wrong with the line of an array after others: the rule of the least number that it breaks
pub data IsBadLine (arrays : List NamedArray) (rest : List ℕ) : InputFault → Type 0 where
  NoForm : begins_array rest ≡ true → ((a : Written) (more : List ℕ) → has_form a ≡ true → rest ≡ array_line a ++ more → ⊥)
      → IsBadLine arrays rest input.NoSuchForm
  PastRange : (a : Written) (more : List ℕ) → rest ≡ array_line a ++ more → has_form a ≡ true → is_in_range a ≡ false
      → IsBadLine arrays rest input.OutOfRange
  Again : (a : Written) (more : List ℕ) → rest ≡ array_line a ++ more → has_form a ≡ true → is_in_range a ≡ true → is_named arrays a.name ≡ true
      → IsBadLine arrays rest input.NamedTwice
  TooMany : (a : Written) (more : List ℕ) → rest ≡ array_line a ++ more → has_form a ≡ true → is_in_range a ≡ true → is_named arrays a.name ≡ false
      → is_past arrays (value a.len) ≡ true → IsBadLine arrays rest input.TooMuch

-- A text has a fault at a line, counted from 1: it is too long, which is a fault of its first line; or after lines of arrays stands a bad one; or
-- there stands no listing, with its first fault; or its root, which is the second line of a listing, names an array that is not there.
pub data HasFault (text : List ℕ) : CaseFault → (line : ℕ) → Type 0 where
  TooLong : case_limit < length text → HasFault text (fault.OfInput input.TooMuch) 1
  BadLine : (f : Front text) (bad : InputFault) → IsBadLine (map array_of f.arrays) f.rest bad
      → HasFault text (fault.OfInput bad) (length f.arrays + 1)
  BadListing : (f : Front text) (rule : ListingFault) (line : ℕ) → begins_array f.rest ≡ false → IsFirstFault f.rest rule line
      → HasFault text (fault.OfListing rule) (length f.arrays + line)
  BadRoot : (f : Front text) (code : CodeParts) → IsListing f.rest code → (NamesArrays code (map array_of f.arrays) → ⊥)
      → HasFault text (fault.OfInput input.NotThere) (length f.arrays + 2)

-- a refusal is the fault of the text; that memory was refused is none
abbrev pub IsRefusal : List ℕ → CaseError → Type 0
IsRefusal text (error.Refused found line) = HasFault text found line
IsRefusal text error.NoMemory = Unit {0}

-- after lines of arrays stands a bad one, at a line
pub record HasBadArray (text : List ℕ) (bad : InputFault) (line : ℕ) : Type 0 where
  pub front : Front text
  pub is : IsBadLine (map array_of front.arrays) front.rest bad
  pub there : line ≡ length front.arrays + 1

-- a refusal while the lines of arrays are read
abbrev pub IsArrayRefusal : List ℕ → CaseError → Type 0
IsArrayRefusal text (error.Refused (fault.OfInput bad) line) = HasBadArray text bad line
IsArrayRefusal text (error.Refused (fault.OfListing rule) line) = ⊥
IsArrayRefusal text error.NoMemory = Unit {0}

-- the refusal where the listing after so many lines is refused
abbrev pub listing_refused : (lines : ℕ) → ListingError → CaseError
listing_refused lines (listing.NoSuchForm line) = error.Refused (fault.OfListing listing_fault.NoSuchForm) (lines + line)
listing_refused lines (listing.OutOfRange line) = error.Refused (fault.OfListing listing_fault.OutOfRange) (lines + line)
listing_refused lines (listing.NotForward line) = error.Refused (fault.OfListing listing_fault.NotForward) (lines + line)
listing_refused lines (listing.NoEnd line) = error.Refused (fault.OfListing listing_fault.NoEnd) (lines + line)
listing_refused lines (listing.WrongRoom line) = error.Refused (fault.OfListing listing_fault.WrongRoom) (lines + line)
listing_refused lines (listing.NotThere line) = error.Refused (fault.OfListing listing_fault.NotThere) (lines + line)
listing_refused lines listing.NoMemory = error.NoMemory
