-- The numbers of the faults of a text, and their places.
use Rattle.std.specs.Prelude.{ℕ}
use Rattle.ppm_text.specs.declared.text_error.TextError.{TextError}
use Rattle.ppm_text.specs.declared.text_error.TextError.TheVariants as error

-- the number of each fault; 0 where memory was refused, which is no fault of the text
abbrev pub number_of : TextError → ℕ
number_of (error.NotAscii place) = 1
number_of (error.BadChar place) = 2
number_of (error.NumberTooBig place) = 3
number_of (error.NameTooLong place) = 4
number_of (error.TooLong limit) = 5
number_of error.NoMemory = 0

-- where a fault stands, counted from 0: after the bytes that a text may have where it has more; 0 where memory was refused
abbrev pub place_of : TextError → ℕ
place_of (error.NotAscii place) = place
place_of (error.BadChar place) = place
place_of (error.NumberTooBig place) = place
place_of (error.NameTooLong place) = place
place_of (error.TooLong limit) = limit
place_of error.NoMemory = 0
