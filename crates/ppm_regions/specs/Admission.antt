-- What it is for a program to be admitted, and which fault is told where it isn't.
use Rattle.std.specs.Prelude.{◌≡◌, ◌≤◌, ◌<◌}
use Rattle.ppm_tree.specs.Tree.{ProgramTree}
use Rattle.ppm_regions.specs.Faults.{IsFault}
use Rattle.ppm_regions.specs.ErrorNumbers.{number_of, line_of}
use Rattle.ppm_regions.specs.declared.region_error.RegionError.{RegionError}
use Rattle.ppm_regions.specs.declared.region_error.RegionError.TheVariants as error

-- a program without a fault
pub record IsAdmitted (t : ProgramTree) : Type 0 where
  pub faultless : (e : RegionError) → ¬ IsFault t e

-- the first one has the lesser number, or the same number and no later line
pub data ComesFirst (d e : RegionError) : Type 0 where
  ByNumber : number_of d < number_of e → ComesFirst d e
  ByLine : number_of d ≡ number_of e → line_of d ≤ line_of e → ComesFirst d e

-- it is so of this one, and of no other that comes before it
pub record IsFirst (P : RegionError → Type 0) (e : RegionError) : Type 0 where
  pub here : P e
  pub first : (other : RegionError) → P other → ComesFirst e other

-- why a program is not admitted: its fault of the least number, at the first line; and memory can always be refused
abbrev pub IsRefused : ProgramTree → RegionError → Type 0
IsRefused t error.NoMemory = Unit {0}
IsRefused t e = IsFirst (IsFault t) e
