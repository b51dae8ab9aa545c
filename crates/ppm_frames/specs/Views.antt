-- Words by cells, as frames have them: block words of the pools, room counters, array words, the
-- finish word.
use Rattle.std.specs.Prelude.{ℕ, ◌+◌, ◌-◌, ◌/◌, ◌==◌, ◌&&◌, nat_lt, nat_le, cond, if◌then◌else◌, Bool, true, false, List}
use Rattle.ppm_cells.specs.Cells.{place_at, place_size, pool_at}
use Rattle.ppm_cells.specs.Memory.{read}
use Rattle.ppm_cells.specs.declared.cell.Cell.{Cell}
use Rattle.ppm_cells.specs.declared.cell.Cell.TheVariants.{FinishWord, CarryWord, DeadWord, RestartWord, MessageWord, HolderWord, Top, RoomCounter, EntryWord, BlockWord, ArrayWord}
use Rattle.ppm_cells.specs.declared.shape.Shape.{Shape}

-- whether two cells are one
abbrev pub same_cell : Cell → Cell → Bool
same_cell FinishWord FinishWord = true
same_cell (CarryWord a) (CarryWord b) = a == b
same_cell (DeadWord a) (DeadWord b) = a == b
same_cell (RestartWord a) (RestartWord b) = a == b
same_cell (MessageWord a) (MessageWord b) = a == b
same_cell (HolderWord a) (HolderWord b) = a == b
same_cell (Top a) (Top b) = a == b
same_cell (RoomCounter a) (RoomCounter b) = a == b
same_cell (EntryWord a i) (EntryWord b j) = (a == b) && (i == j)
same_cell (BlockWord a) (BlockWord b) = a == b
same_cell (ArrayWord a) (ArrayWord b) = a == b
same_cell _ _ = false

-- the words with another word in a cell
unfoldable pub written : (Cell → ℕ) → Cell → ℕ → Cell → ℕ
written m c w d = cond (same_cell d c) w (m d)

-- the place in whose words an address lies, by division
abbrev pub place_of : Shape → ℕ → ℕ
place_of s at = (at - place_at s 0) / place_size s

-- whether an address is one of a pool
abbrev pub in_pool : Shape → ℕ → Bool
in_pool s at = nat_lt (place_of s at) s.processors && (nat_le (pool_at s (place_of s at)) at && nat_lt at (pool_at s (place_of s at) + s.room))

-- whether the shape has the cell, and frames do
abbrev pub is_cell : Shape → Cell → Bool
is_cell s FinishWord = true
is_cell s (RoomCounter place) = nat_lt place s.processors
is_cell s (BlockWord at) = in_pool s at
is_cell s (ArrayWord index) = nat_lt index s.arrays
is_cell s _ = false

-- what stands for a word that is not there: the counter of an empty pool, or 0
abbrev pub absent : Shape → Cell → ℕ
absent s (RoomCounter place) = pool_at s place
absent s _ = 0

-- the words by cells
unfoldable pub view : Shape → List ℕ → Cell → ℕ
view s words c = if is_cell s c then read s words c else absent s c
