-- The laws of this crate: an image shows what the depth-first run of its code begins with.
use Rattle.std.specs.Prelude.{◌≡◌, ℕ, ◌<◌, List, Some}
use Rattle.ppm_strands.specs.Strand.{code_of}
use Rattle.ppm_words.specs.declared.named_array.NamedArray.{NamedArray}
use Rattle.ppm_cells.specs.Memory.{read}
use Rattle.ppm_cells.specs.Restart.{restart_of}
use Rattle.ppm_cells.specs.declared.cell.Cell.TheVariants.{RestartWord, ArrayWord}
use Rattle.ppm_cells.specs.declared.restart.RestartKind.TheVariants.{Run}
use Rattle.ppm_cells.specs.declared.shape.Shape.{Shape}
use Rattle.ppm_code.specs.declared.code.CodeParts.{CodeParts}
use Rattle.ppm_code.specs.Locations.{code_locations}
use Rattle.ppm_code.specs.Sizes.{slots_of}
use Rattle.ppm_code.specs.Strands.{table_of}
use Rattle.ppm_layout.specs.Correct.{Opens}
use Rattle.ppm_layout.specs.Root.{strand_at, root_strand as strand_of_image}
use Rattle.ppm_layout.specs.declared.images.Image.{Image}
use Rattle.ppm_code.specs.Inputs.{words_in}
use Rattle.ppm_frames.specs.Seen.{arrays_at}
use Rattle.ppm_frames.specs.Views.{view}
use Rattle.ppm_depth.specs.Run.{strands_of}
use Rattle.ppm_depth.specs.Start.{NamesArrays, words_of, root_strand}

-- the keeper's place is to run a frame that shows the strand of the root, over the words of the input
pub record BeginsTheRun (code : CodeParts) (input : List NamedArray) (s : Shape) (keeper : ℕ) (words : List ℕ) : Type 0 where
  pub frame : ℕ
  pub runs : restart_of (read s words (RestartWord keeper)) ≡ Some (record { kind = Run frame 0; bottom = 1 })
  pub strand : strand_at s words (slots_of code code.root) frame ≡ root_strand code input
  pub arrays : (index : ℕ) → index < s.arrays → read s words (ArrayWord index) ≡ words_of (words_in input) index

-- for each image of a code whose root names arrays of the input
abbrev pub ImagesBeginTheRun : Type 0
ImagesBeginTheRun = (code : CodeParts) (input : List NamedArray) (s : Shape) (keeper : ℕ) (image : Image)
    → Opens code input s keeper image → NamesArrays code input → BeginsTheRun code input s keeper image.words

-- the strands of the code on a machine of this shape, that of the root, and the words of the arrays by cells are those of the depth-first
-- run: so what ends from the ones ends from the others
pub record ShowsTheRun (code : CodeParts) (input : List NamedArray) (s : Shape) (words : List ℕ) : Type 0 where
  pub strands : code_of code_locations (table_of code s.arrays) ≡ strands_of code input
  pub root : strand_of_image code input ≡ root_strand code input
  pub arrays : arrays_at (view s words) ≡ words_of (words_in input)

-- for each image of a code whose root names arrays of the input
abbrev pub ImagesShowTheRun : Type 0
ImagesShowTheRun = (code : CodeParts) (input : List NamedArray) (s : Shape) (keeper : ℕ) (image : Image)
    → Opens code input s keeper image → NamesArrays code input → ShowsTheRun code input s image.words
