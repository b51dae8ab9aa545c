-- What a capsule sees of words: its frame, its new block and the arrays, each within its bounds.
use Rattle.std.specs.Prelude.{◌<◌, ℕ, ◌+◌, nat_lt, if◌then◌else◌}
use Rattle.ppm_strands.specs.Tree.{Words}
use Rattle.ppm_cells.specs.declared.cell.Cell.{Cell}
use Rattle.ppm_cells.specs.declared.cell.Cell.TheVariants.{BlockWord, ArrayWord}
use Rattle.ppm_strands.specs.Capsule.{Memory}
use Rattle.ppm_strands.specs.Strand.{Own, New, Shared}
use Rattle.ppm_code.specs.Locations.{Where}
use Rattle.ppm_code.specs.Sizes.{slot_at, value_at}
use Rattle.ppm_code.specs.declared.location.FrameWord.{FrameWord}
use Rattle.ppm_code.specs.declared.location.FrameWord.TheVariants.{Slot, Value}

-- the own words of a frame at an address, with so many slots
abbrev pub own_at : (Cell → ℕ) → (frame slots : ℕ) → FrameWord → ℕ
own_at m frame slots (Slot slot) = if nat_lt slot slots then m (BlockWord (frame + slot_at slot)) else 0
own_at m frame slots Value = m (BlockWord (frame + value_at))

-- the words of a block at an address, of so many words
abbrev pub block_at : (Cell → ℕ) → (block size : ℕ) → ℕ → ℕ
block_at m block size offset = if nat_lt offset size then m (BlockWord (block + offset)) else 0

-- the words of the arrays
abbrev pub arrays_at : (Cell → ℕ) → Words
arrays_at m index = m (ArrayWord index)

-- what a capsule sees, in a frame with so many slots and with a block of so many words
abbrev pub seen : (Cell → ℕ) → (frame slots block size : ℕ) → Memory Where
seen m frame slots block size (Own word) = own_at m frame slots word
seen m frame slots block size (New offset) = block_at m block size offset
seen m frame slots block size (Shared index) = arrays_at m index

-- the cell of a location
abbrev pub cell_in : (frame block : ℕ) → Where → Cell
cell_in frame block (Own (Slot slot)) = BlockWord (frame + slot_at slot)
cell_in frame block (Own Value) = BlockWord (frame + value_at)
cell_in frame block (New offset) = BlockWord (block + offset)
cell_in frame block (Shared index) = ArrayWord index

-- a location within the bounds
abbrev pub IsIn : (slots size : ℕ) → Where → Type 0
IsIn slots size (Own (Slot slot)) = slot < slots
IsIn slots size (Own Value) = Unit {0}
IsIn slots size (New offset) = offset < size
IsIn slots size (Shared index) = Unit {0}
