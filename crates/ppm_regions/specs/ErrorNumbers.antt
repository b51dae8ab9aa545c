-- The numbers of the faults of names and regions, and their lines.
use Rattle.std.specs.Prelude.{ℕ}
use Rattle.ppm_regions.specs.declared.region_error.RegionError.{RegionError}
use Rattle.ppm_regions.specs.declared.region_error.RegionError.TheVariants as error

-- the number of each fault; 0 where memory was refused, which is no fault of the program
abbrev pub number_of : RegionError → ℕ
number_of (error.UnknownName line) = 1
number_of (error.TwiceNamed line) = 2
number_of (error.WrongKind line) = 3
number_of (error.WrongCount line) = 4
number_of (error.WriteToRef line) = 5
number_of (error.LentTwice line) = 6
number_of (error.HiddenRegion line) = 7
number_of (error.BadMain line) = 8
number_of (error.BadInput line) = 9
number_of (error.NoValue line) = 10
number_of (error.TwiceTarget line) = 11
number_of (error.OuterWritten line) = 12
number_of (error.OuterAssigned line) = 13
number_of error.NoMemory = 0

-- the line of each fault, counted from 1; 0 where there is no `main`, and where memory was refused
abbrev pub line_of : RegionError → ℕ
line_of (error.UnknownName line) = line
line_of (error.TwiceNamed line) = line
line_of (error.WrongKind line) = line
line_of (error.WrongCount line) = line
line_of (error.WriteToRef line) = line
line_of (error.LentTwice line) = line
line_of (error.HiddenRegion line) = line
line_of (error.BadMain line) = line
line_of (error.BadInput line) = line
line_of (error.NoValue line) = line
line_of (error.TwiceTarget line) = line
line_of (error.OuterWritten line) = line
line_of (error.OuterAssigned line) = line
line_of error.NoMemory = 0
