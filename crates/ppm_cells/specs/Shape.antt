-- The shape that sizes give.
use Rattle.std.specs.Prelude.{◌≡◌, ℕ}
use Rattle.ppm_cells.specs.declared.shape.Shape.{Shape}
use Rattle.ppm_cells.specs.declared.shape.Takeover.TheVariants.{ByPlaces}

-- a shape with these sizes, and with takeover by places
pub record HasSizes (processors room slots arrays : ℕ) (shape : Shape) : Type 0 where
  pub processors_are : shape.processors ≡ processors
  pub room_is : shape.room ≡ room
  pub slots_are : shape.slots ≡ slots
  pub arrays_are : shape.arrays ≡ arrays
  pub by_places : shape.takeover ≡ ByPlaces
