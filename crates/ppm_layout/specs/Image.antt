-- Images: the words with which a run of the machine begins.
use Rattle.std.specs.Prelude.{◌≡◌, ℕ, List, length, map}
use Rattle.ppm_words.specs.declared.named_array.NamedArray.{NamedArray}
use Rattle.ppm_cells.specs.Cells.{IsCell}
use Rattle.ppm_cells.specs.Memory.{read}
use Rattle.ppm_cells.specs.declared.cell.Cell.{Cell}
use Rattle.ppm_cells.specs.declared.shape.Shape.{Shape}
use Rattle.ppm_code.specs.declared.code.CodeParts.{CodeParts}
use Rattle.ppm_layout.specs.Opening.{opening}
use Rattle.ppm_layout.specs.declared.images.Image.{Image}

-- the image of a code, its input, a shape and a keeper: each cell has its opening word
pub record IsImageOf (code : CodeParts) (input : List NamedArray) (s : Shape) (keeper : ℕ) (image : Image) : Type 0 where
  pub shape_is : image.shape ≡ s
  pub keeper_is : image.keeper ≡ keeper
  pub lengths_are : image.lengths ≡ map (λ a. length a.values) input
  pub opened : (c : Cell) → IsCell s c → read s image.words c ≡ opening code input s keeper c
