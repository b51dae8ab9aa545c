-- What a reader of listings answers: the code of a listing, or the first fault of the text.
use Rattle.std.specs.Prelude.{◌≡◌, ◌⊎◌, ◌<◌, ◌≤◌, ℕ, ◌+◌, List, length, Option}
use Rattle.ppm_code.specs.declared.code.CodeParts.{CodeParts}
use Rattle.ppm_code.specs.Code.{IsCode}
use Rattle.ppm_listing.specs.Listing.{listing_of}
use Rattle.ppm_listing.specs.Correct.{NumbersFit}
use Rattle.ppm_listing_reader.specs.declared.listing_error.Fault.{Fault}
use Rattle.ppm_listing_reader.specs.declared.listing_error.Fault.TheVariants as fault
use Rattle.ppm_listing_reader.specs.declared.listing_error.ListingError.{ListingError}
use Rattle.ppm_listing_reader.specs.declared.listing_error.ListingError.TheVariants as error
use Rattle.ppm_listing_reader.specs.declared.part.Part.{Part}
use Rattle.ppm_listing_reader.specs.declared.place.Place.TheVariants.{AtVersion}
use Rattle.ppm_listing_reader.specs.Limits.{listing_limit}
use Rattle.ppm_listing_reader.specs.ErrorNumbers.{fault_number}
use Rattle.ppm_listing_reader.specs.Forms.{lines_of}
use Rattle.ppm_listing_reader.specs.Places.{standing_from, code_in}
use Rattle.ppm_listing_reader.specs.Faults.{BreaksAt}

-- the lines of a text, each as it stands
abbrev pub standing_of : List ℕ → List (Option Part)
standing_of text = standing_from AtVersion (lines_of text)

-- a text has a fault at a line, counted from 1: the line breaks the rule by what the text declares; or the text is too long, which is a fault of its first line
pub data HasFault (text : List ℕ) : Fault → (line : ℕ) → Type 0 where
  Breaks : (rule : Fault) (number : ℕ) → BreaksAt (code_in (standing_of text)) rule AtVersion (standing_of text) number → HasFault text rule (number + 1)
  TooLong : listing_limit < length text → HasFault text fault.NotThere 1

-- one fault comes at an earlier line, or at the same with no larger number
abbrev pub IsNotAfter : (Fault × ℕ) → (Fault × ℕ) → Type 0
IsNotAfter (rule, line) (other, later) = (line < later) ⊎ ((line ≡ later) × (fault_number rule ≤ fault_number other))

-- the first fault of a text: at the least line, and there the one of the least number
pub record IsFirstFault (text : List ℕ) (rule : Fault) (line : ℕ) : Type 0 where
  pub there : HasFault text rule line
  pub first : (other : Fault) (later : ℕ) → HasFault text other later → IsNotAfter (rule, line) (other, later)

-- a refusal is the first fault of the text; that memory was refused is none
abbrev pub IsRefusal : List ℕ → ListingError → Type 0
IsRefusal text (error.NoSuchForm line) = IsFirstFault text fault.NoSuchForm line
IsRefusal text (error.OutOfRange line) = IsFirstFault text fault.OutOfRange line
IsRefusal text (error.NotForward line) = IsFirstFault text fault.NotForward line
IsRefusal text (error.NoEnd line) = IsFirstFault text fault.NoEnd line
IsRefusal text (error.WrongRoom line) = IsFirstFault text fault.WrongRoom line
IsRefusal text (error.NotThere line) = IsFirstFault text fault.NotThere line
IsRefusal text error.NoMemory = Unit {0}

-- a text is the listing of a code, whose numbers fit 64 bits
pub record IsListing (text : List ℕ) (c : CodeParts) : Type 0 where
  pub code : IsCode c
  pub fits : NumbersFit c
  pub same : text ≡ listing_of c

-- a listing has no fault, a text without one is a listing, and two first faults are one
pub record FaultsTellListings : Type 0 where
  pub excludes : (text : List ℕ) (code : CodeParts) (rule : Fault) (line : ℕ) → IsListing text code → HasFault text rule line → ⊥
  pub covers : (text : List ℕ) → ((rule : Fault) (line : ℕ) → HasFault text rule line → ⊥) → (code : CodeParts) × IsListing text code
  pub one_code : (text : List ℕ) (c d : CodeParts) → IsListing text c → IsListing text d → c ≡ d
  pub one_fault : (text : List ℕ) (rule other : Fault) (line later : ℕ) → IsFirstFault text rule line → IsFirstFault text other later
      → (rule ≡ other) × (line ≡ later)
