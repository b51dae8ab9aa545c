-- What a reader of listings with exchanges answers.
use Rattle.std.specs.Prelude.{◌≡◌, ◌≤◌, ℕ, ◌+◌, List, Some, slice_get}
use Rattle.ppm_code.specs.declared.code.CodeParts.{CodeParts}
use Rattle.ppm_listing.specs.Listing.{listing_of}
use Rattle.ppm_listing.specs.Correct.{NumbersFit}
use Rattle.ppm_listing_reader.specs.declared.listing_error.Fault.{Fault}
use Rattle.ppm_listing_reader.specs.declared.listing_error.Fault.TheVariants as fault
use Rattle.ppm_listing_reader.specs.declared.listing_error.ListingError.{ListingError}
use Rattle.ppm_listing_reader.specs.declared.listing_error.ListingError.TheVariants as error
use Rattle.ppm_listing_reader.specs.Correct.{HasFault, IsNotAfter}
use Rattle.ppm_racy.specs.declared.code.RacyParts.{RacyParts}
use Rattle.ppm_racy.specs.Code.{IsRacyCode, as_racy, plain_code}
use Rattle.ppm_racy_listing.specs.Listing.{racy_listing_of}
use Rattle.ppm_racy_listing.specs.Plain.{olds_of, plain_of_text}

-- a text has a fault at a line, counted from 1: that of the text with puts in place of its exchanges; or the old register of an exchange is out of range
pub data HasRacyFault (text : List ℕ) : Fault → (line : ℕ) → Type 0 where
  OfPlain : (rule : Fault) (line : ℕ) → HasFault (plain_of_text text) rule line → HasRacyFault text rule line
  OldOutOfRange : (number old : ℕ) → slice_get (olds_of text) number ≡ Some (Some old) → 64 ≤ old → HasRacyFault text fault.OutOfRange (number + 1)

-- the first fault: at the least line, and there the one of the least number
pub record IsFirstRacyFault (text : List ℕ) (rule : Fault) (line : ℕ) : Type 0 where
  pub there : HasRacyFault text rule line
  pub first : (other : Fault) (later : ℕ) → HasRacyFault text other later → IsNotAfter (rule, line) (other, later)

-- a refusal is the first fault of the text; that memory was refused is none
abbrev pub IsRacyRefusal : List ℕ → ListingError → Type 0
IsRacyRefusal text (error.NoSuchForm line) = IsFirstRacyFault text fault.NoSuchForm line
IsRacyRefusal text (error.OutOfRange line) = IsFirstRacyFault text fault.OutOfRange line
IsRacyRefusal text (error.NotForward line) = IsFirstRacyFault text fault.NotForward line
IsRacyRefusal text (error.NoEnd line) = IsFirstRacyFault text fault.NoEnd line
IsRacyRefusal text (error.WrongRoom line) = IsFirstRacyFault text fault.WrongRoom line
IsRacyRefusal text (error.NotThere line) = IsFirstRacyFault text fault.NotThere line
IsRacyRefusal text error.NoMemory = Unit {0}

-- a text is the listing of a code with exchanges, whose numbers fit 64 bits
pub record IsRacyListing (text : List ℕ) (c : RacyParts) : Type 0 where
  pub code : IsRacyCode c
  pub fits : NumbersFit (plain_code c)
  pub same : text ≡ racy_listing_of c

-- a listing has no fault, a text without one is a listing, two codes of one text are one, and two first faults are
pub record RacyFaultsTellListings : Type 0 where
  pub excludes : (text : List ℕ) (code : RacyParts) (rule : Fault) (line : ℕ) → IsRacyListing text code → HasRacyFault text rule line → ⊥
  pub covers : (text : List ℕ) → ((rule : Fault) (line : ℕ) → HasRacyFault text rule line → ⊥) → (code : RacyParts) × IsRacyListing text code
  pub one_code : (text : List ℕ) (c d : RacyParts) → IsRacyListing text c → IsRacyListing text d → c ≡ d
  pub one_fault : (text : List ℕ) (rule other : Fault) (line later : ℕ) → IsFirstRacyFault text rule line → IsFirstRacyFault text other later
      → (rule ≡ other) × (line ≡ later)

-- a code without exchanges has the listing that it has without this crate
abbrev pub PlainListingsStay : Type 0
PlainListingsStay = (code : CodeParts) → racy_listing_of (as_racy code) ≡ listing_of code
