-- The numbers and places of the faults of tokens, and the numbers of the limits.
use Rattle.std.specs.Prelude.{ℕ}
use Rattle.ppm_rows.specs.Limits.{arrays, words, procedures, elements, nodes}
use Rattle.ppm_parser.specs.declared.limit.Limit.{Limit}
use Rattle.ppm_parser.specs.declared.limit.Limit.TheVariants as limit
use Rattle.ppm_parser.specs.declared.syntax_error.SyntaxError.{SyntaxError}
use Rattle.ppm_parser.specs.declared.syntax_error.SyntaxError.TheVariants as error

-- the number of each fault; 0 where memory was refused, which is no fault of the tokens
abbrev pub number_of : SyntaxError → ℕ
number_of (error.Expected place) = 1
number_of (error.Ended place) = 2
number_of (error.TooDeep place) = 3
number_of (error.TooMany place which) = 4
number_of error.NoMemory = 0

-- where a fault stands, counted in bytes from 0; 0 where memory was refused
abbrev pub place_of : SyntaxError → ℕ
place_of (error.Expected place) = place
place_of (error.Ended place) = place
place_of (error.TooDeep place) = place
place_of (error.TooMany place which) = place
place_of error.NoMemory = 0

-- the number of each limit
abbrev pub which_of : Limit → ℕ
which_of limit.Arrays = arrays
which_of limit.ArrayWords = words
which_of limit.Procedures = procedures
which_of limit.Elements = elements
which_of limit.Nodes = nodes
