-- The numbers of the faults of a saved text, and their lines.
use Rattle.std.specs.Prelude.{ℕ}
use Rattle.ppm_listing_reader.specs.declared.listing_error.ListingError.{ListingError}
use Rattle.ppm_listing_reader.specs.declared.listing_error.ListingError.TheVariants as listing
use Rattle.ppm_saved_reader.specs.declared.saved_error.Fault.{Fault}
use Rattle.ppm_saved_reader.specs.declared.saved_error.Fault.TheVariants as fault
use Rattle.ppm_saved_reader.specs.declared.saved_error.SavedError.{SavedError}
use Rattle.ppm_saved_reader.specs.declared.saved_error.SavedError.TheVariants as error

-- the number of each fault: at one line the least decides
abbrev pub fault_number : Fault → ℕ
fault_number fault.NoSuchForm = 1
fault_number fault.OutOfRange = 2
fault_number fault.BadListing = 3
fault_number fault.BadCode = 4
fault_number fault.WrongCount = 5

-- the number of a refusal; 0 where memory was refused, which is no fault of the text
abbrev pub number_of : SavedError → ℕ
number_of (error.NoSuchForm line) = 1
number_of (error.OutOfRange line) = 2
number_of (error.BadListing line) = 3
number_of (error.BadCode line) = 4
number_of (error.WrongCount line) = 5
number_of error.NoMemory = 0

-- its line, from 1; 0 where memory was refused
abbrev pub line_of : SavedError → ℕ
line_of (error.NoSuchForm line) = line
line_of (error.OutOfRange line) = line
line_of (error.BadListing line) = line
line_of (error.BadCode line) = line
line_of (error.WrongCount line) = line
line_of error.NoMemory = 0

-- the refusal for a fault at a line
abbrev pub refusal_at : Fault → ℕ → SavedError
refusal_at fault.NoSuchForm line = error.NoSuchForm line
refusal_at fault.OutOfRange line = error.OutOfRange line
refusal_at fault.BadListing line = error.BadListing line
refusal_at fault.BadCode line = error.BadCode line
refusal_at fault.WrongCount line = error.WrongCount line

-- the refusal where the listing after a line is refused
abbrev pub refusal_behind : ℕ → ListingError → SavedError
refusal_behind line (listing.NoSuchForm at) = error.BadListing line
refusal_behind line (listing.OutOfRange at) = error.BadListing line
refusal_behind line (listing.NotForward at) = error.BadListing line
refusal_behind line (listing.NoEnd at) = error.BadListing line
refusal_behind line (listing.WrongRoom at) = error.BadListing line
refusal_behind line (listing.NotThere at) = error.BadListing line
refusal_behind line listing.NoMemory = error.NoMemory
