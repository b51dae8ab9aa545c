-- A program is within the bounds, or is refused for one reason, and never both.
use Rattle.std.specs.Prelude.{◌≡◌, ◌≢◌}
use Rattle.ppm_tree.specs.Tree.{ProgramTree}
use Rattle.ppm_cut_bounds.specs.declared.bound_error.BoundError.{BoundError}
use Rattle.ppm_cut_bounds.specs.declared.bound_error.BoundError.TheVariants as error
use Rattle.ppm_cut_bounds.specs.Bounds.{IsWithinBounds}
use Rattle.ppm_cut_bounds.specs.Refusals.{IsRefused}

-- the program passes this bound first; want of memory is none
pub record IsFault (t : ProgramTree) (e : BoundError) : Type 0 where
  pub refused : IsRefused t e
  pub given : e ≢ error.NoMemory

-- two faults of a program are one; a program that has one is not within the bounds, and one that has none is
pub record HasOneFault (t : ProgramTree) : Type 0 where
  pub fault : (d e : BoundError) → IsFault t d → IsFault t e → d ≡ e
  pub either : (e : BoundError) → IsFault t e → ¬ IsWithinBounds t
  pub none : ((e : BoundError) → ¬ IsFault t e) → IsWithinBounds t

-- every program has one fault, or is within the bounds
abbrev pub HaveOneFault : Type 0
HaveOneFault = (t : ProgramTree) → HasOneFault t
