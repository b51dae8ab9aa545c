-- Why the compiler refuses a program.
use Rattle.std.specs.Prelude.{ℕ, suc, ◌<◌, List, ◌∷◌}
use Rattle.ppm_tree.specs.Tree.{Procedure, ProgramTree}
use Rattle.ppm_cut_bounds.specs.declared.bound.Bound.{Bound}
use Rattle.ppm_cut_bounds.specs.declared.bound.Bound.TheVariants as bound
use Rattle.ppm_cut_bounds.specs.declared.bound_error.BoundError.{BoundError}
use Rattle.ppm_cut_bounds.specs.declared.bound_error.BoundError.TheVariants as error
use Rattle.ppm_cut_bounds.specs.Capsules.{capsule_bound}
use Rattle.ppm_cut_bounds.specs.Bounds.{Keeps, AllKeep, capsule_limit}

-- the first procedure that doesn't keep a bound, by its number
pub data IsFirstPast (b : Bound) : List Procedure → ℕ → Type 0 where
  Here : {p : Procedure} {rest : List Procedure} → ¬ Keeps b p → IsFirstPast b (p ∷ rest) 0
  Behind : {p : Procedure} {rest : List Procedure} {n : ℕ} → Keeps b p → IsFirstPast b rest n → IsFirstPast b (p ∷ rest) (suc n)

-- all slots are counted before any name that is caught, and both before the capsules; and memory can always be refused
abbrev pub IsRefused : ProgramTree → BoundError → Type 0
IsRefused t (error.TooManySlots n) = IsFirstPast bound.Slots t.procedures n
IsRefused t (error.TooManyCaught n) = AllKeep bound.Slots t × IsFirstPast bound.Caught t.procedures n
IsRefused t error.TooManyCapsules = AllKeep bound.Slots t × AllKeep bound.Caught t × capsule_limit < capsule_bound t
IsRefused t error.NoMemory = Unit {0}

-- the number of a refusal; 0 where memory was refused, which is no fault of the program
abbrev pub number_of : BoundError → ℕ
number_of (error.TooManySlots n) = 1
number_of error.TooManyCapsules = 2
number_of (error.TooManyCaught n) = 3
number_of error.NoMemory = 0

-- the procedure that passes a bound; 0 where none is named
abbrev pub place_of : BoundError → ℕ
place_of (error.TooManySlots n) = n
place_of (error.TooManyCaught n) = n
place_of error.TooManyCapsules = 0
place_of error.NoMemory = 0
