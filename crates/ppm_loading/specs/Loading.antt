-- The machine with which a run begins.
use Rattle.std.specs.Prelude.{◌≡◌, ℕ, List}
use Rattle.ppm_words.specs.Inputs.{value_count}
use Rattle.ppm_words.specs.declared.named_array.NamedArray.{NamedArray}
use Rattle.ppm_cells.specs.Limits.{IsWithinLimits}
use Rattle.ppm_cells.specs.declared.shape.Shape.{Shape}
use Rattle.ppm_code.specs.declared.code.CodeParts.{CodeParts}
use Rattle.ppm_layout.specs.declared.images.Image.{Image}
use Rattle.ppm_layout.specs.Image.{IsImageOf}
use Rattle.ppm_core.specs.Situation.{Situation, loaded}
use Rattle.ppm_table.specs.declared.processor.Shared.{Shared}
use Rattle.ppm_table.specs.Shown.{opening_of}
use Rattle.ppm_loading.specs.declared.loading.Sizes.{Sizes}

-- a machine may have these sizes
abbrev pub AreSizes : Sizes → Type 0
AreSizes sizes = IsWithinLimits sizes.processors sizes.room sizes.slots 0

-- a shape with these sizes and so many array words
pub record HasShape (sizes : Sizes) (array_words : ℕ) (s : Shape) : Type 0 where
  pub processors : s.processors ≡ sizes.processors
  pub room : s.room ≡ sizes.room
  pub slots : s.slots ≡ sizes.slots
  pub arrays : s.arrays ≡ array_words
  pub takeover : s.takeover ≡ sizes.takeover

-- the machine with which a run of a code on these arrays begins: it has these sizes, and the words of their image, with this keeper
pub record OpensRun (sizes : Sizes) (code : CodeParts) (arrays : List NamedArray) (keeper : ℕ) (m : Situation) : Type 0 where
  pub shape : Shape
  pub sized : HasShape sizes (value_count arrays) shape
  pub image : Image
  pub opens : IsImageOf code arrays shape keeper image
  pub loads : m ≡ loaded shape code image.lengths image.words

-- the machine whose words a table was told when it was made
abbrev pub opened_by : Shared → Situation
opened_by s = loaded (opening_of s).shape (opening_of s).code s.lengths (opening_of s).words
