-- The numbers of the faults of a listing, and their lines.
use Rattle.std.specs.Prelude.{ℕ}
use Rattle.ppm_listing_reader.specs.declared.listing_error.Fault.{Fault}
use Rattle.ppm_listing_reader.specs.declared.listing_error.Fault.TheVariants as fault
use Rattle.ppm_listing_reader.specs.declared.listing_error.ListingError.{ListingError}
use Rattle.ppm_listing_reader.specs.declared.listing_error.ListingError.TheVariants as error

-- the number of each fault: at one line the least decides
abbrev pub fault_number : Fault → ℕ
fault_number fault.NoSuchForm = 1
fault_number fault.OutOfRange = 2
fault_number fault.NotForward = 3
fault_number fault.NoEnd = 4
fault_number fault.WrongRoom = 5
fault_number fault.NotThere = 6

-- the number of a refusal; 0 where memory was refused, which is no fault of the text
abbrev pub number_of : ListingError → ℕ
number_of (error.NoSuchForm line) = 1
number_of (error.OutOfRange line) = 2
number_of (error.NotForward line) = 3
number_of (error.NoEnd line) = 4
number_of (error.WrongRoom line) = 5
number_of (error.NotThere line) = 6
number_of error.NoMemory = 0

-- its line, from 1; 0 where memory was refused
abbrev pub line_of : ListingError → ℕ
line_of (error.NoSuchForm line) = line
line_of (error.OutOfRange line) = line
line_of (error.NotForward line) = line
line_of (error.NoEnd line) = line
line_of (error.WrongRoom line) = line
line_of (error.NotThere line) = line
line_of error.NoMemory = 0

-- the refusal for a fault at a line
abbrev pub refusal_at : Fault → ℕ → ListingError
refusal_at fault.NoSuchForm line = error.NoSuchForm line
refusal_at fault.OutOfRange line = error.OutOfRange line
refusal_at fault.NotForward line = error.NotForward line
refusal_at fault.NoEnd line = error.NoEnd line
refusal_at fault.WrongRoom line = error.WrongRoom line
refusal_at fault.NotThere line = error.NotThere line
