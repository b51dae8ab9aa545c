-- The laws of images: what their words stand for, that they begin with the root's strand, and that there is one of them.
use Rattle.std.specs.Prelude.{◌≡◌, ℕ, ◌+◌, ◌<◌, ◌≤◌, List, Some, length, get_or}
use Rattle.ppm_words.specs.Inputs.{IsInput}
use Rattle.ppm_words.specs.declared.named_array.NamedArray.{NamedArray}
use Rattle.ppm_cells.specs.Cells.{pool_at}
use Rattle.ppm_cells.specs.Memory.{read}
use Rattle.ppm_cells.specs.Entry.{entry_of}
use Rattle.ppm_cells.specs.Finish.{finish_of}
use Rattle.ppm_cells.specs.Holder.{holder_of}
use Rattle.ppm_cells.specs.Link.{link_of}
use Rattle.ppm_cells.specs.Region.{region_of}
use Rattle.ppm_cells.specs.Restart.{restart_of}
use Rattle.ppm_cells.specs.declared.cell.Cell.TheVariants.{FinishWord, RestartWord, HolderWord, RoomCounter, EntryWord, BlockWord, ArrayWord}
use Rattle.ppm_cells.specs.declared.finish.Finish.TheVariants.{Unset, Ended}
use Rattle.ppm_cells.specs.declared.restart.RestartKind.TheVariants.{Run, Seek}
use Rattle.ppm_cells.specs.declared.shape.Shape.{Shape}
use Rattle.ppm_code.specs.Inputs.{words_in}
use Rattle.ppm_code.specs.declared.code.CodeParts.{CodeParts}
use Rattle.ppm_code.specs.Code.{IsCode}
use Rattle.ppm_code.specs.Sizes.{slots_of, frame_size, slot_at}
use Rattle.ppm_layout.specs.Opening.{whole_array, root_link, first_entry, first_holder}
use Rattle.ppm_layout.specs.Image.{IsImageOf}
use Rattle.ppm_layout.specs.Root.{strand_at, root_strand}
use Rattle.ppm_layout.specs.declared.images.Image.{Image}

-- an image of a code and an input
pub record Opens (code : CodeParts) (input : List NamedArray) (s : Shape) (keeper : ℕ) (image : Image) : Type 0 where
  pub code_is : IsCode code
  pub input_is : IsInput input
  pub below : keeper < s.processors
  pub image_is : IsImageOf code input s keeper image

-- each word that is packed stands for its value
pub record StandsFor (code : CodeParts) (s : Shape) (keeper : ℕ) (words : List ℕ) : Type 0 where
  pub finish : finish_of (read s words FinishWord) ≡ Some Unset
  pub runs : restart_of (read s words (RestartWord keeper)) ≡ Some (record { kind = Run (pool_at s keeper) 0; bottom = 1 })
  pub seeks : (place : ℕ) → place < s.processors → (place ≡ keeper → ⊥)
      → restart_of (read s words (RestartWord place)) ≡ Some (record { kind = Seek; bottom = 1 })
  pub holder : (place : ℕ) → place < s.processors → holder_of (read s words (HolderWord place)) ≡ Some (first_holder place)
  pub entry : (place slot : ℕ) → place < s.processors → slot < s.slots → entry_of (read s words (EntryWord place slot)) ≡ Some (first_entry slot)

-- at the keeper's place the root's frame begins the pool, and shows the strand with which a run of the code begins
pub record BeginsWithRoot (code : CodeParts) (input : List NamedArray) (s : Shape) (keeper : ℕ) (words : List ℕ) : Type 0 where
  pub fits : frame_size code code.root ≤ s.room
  pub room : read s words (RoomCounter keeper) ≡ pool_at s keeper + frame_size code code.root
  pub link : link_of (read s words (BlockWord (pool_at s keeper))) ≡ Some (root_link (frame_size code code.root))
  pub outcome : finish_of (read s words (BlockWord (pool_at s keeper + 1))) ≡ Some Ended
  pub regions : (slot : ℕ) → slot < length code.arrays
      → region_of (read s words (BlockWord (pool_at s keeper + slot_at slot))) ≡ Some (whole_array input (get_or code.arrays slot 0))
  pub strand : strand_at s words (slots_of code code.root) (pool_at s keeper) ≡ root_strand code input
  pub arrays : (index : ℕ) → index < s.arrays → read s words (ArrayWord index) ≡ get_or (words_in input) index 0

-- for each image
abbrev pub WordsStandForValues : Type 0
WordsStandForValues = (code : CodeParts) (input : List NamedArray) (s : Shape) (keeper : ℕ) (image : Image)
    → Opens code input s keeper image → StandsFor code s keeper image.words

abbrev pub ImagesBeginWithRoot : Type 0
ImagesBeginWithRoot = (code : CodeParts) (input : List NamedArray) (s : Shape) (keeper : ℕ) (image : Image)
    → Opens code input s keeper image → BeginsWithRoot code input s keeper image.words

-- two images of one code, input, shape and keeper have the same words
abbrev pub ImagesAreOne : Type 0
ImagesAreOne = (code : CodeParts) (input : List NamedArray) (s : Shape) (keeper : ℕ) (a b : Image)
    → IsImageOf code input s keeper a → IsImageOf code input s keeper b → a.words ≡ b.words
