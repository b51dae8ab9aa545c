-- The words of a shape by name, and their addresses: finish, carries, deads, then place by place, then the arrays.
use Rattle.std.specs.Prelude.{◌≡◌, ℕ, ◌+◌, ◌*◌, ◌<◌, ◌≤◌}
use Rattle.ppm_cells.specs.declared.shape.Shape.{Shape}
use Rattle.ppm_cells.specs.declared.cell.Cell.{Cell}
use Rattle.ppm_cells.specs.declared.cell.Cell.TheVariants.{FinishWord, CarryWord, DeadWord, RestartWord, MessageWord, HolderWord}
use Rattle.ppm_cells.specs.declared.cell.Cell.TheVariants.{Top, RoomCounter, EntryWord, BlockWord, ArrayWord}

-- the words of a place: five, its entries and its pool
abbrev pub place_size : Shape → ℕ
place_size s = 5 + s.slots + s.room

-- where a place begins
abbrev pub place_at : Shape → ℕ → ℕ
place_at s place = 1 + 2 * s.processors + place * place_size s

-- where the pool of a place begins
abbrev pub pool_at : Shape → ℕ → ℕ
pool_at s place = place_at s place + 5 + s.slots

-- where the arrays begin
abbrev pub arrays_at : Shape → ℕ
arrays_at s = place_at s s.processors

-- how many words there are
abbrev pub word_count : Shape → ℕ
word_count s = arrays_at s + s.arrays

-- where a cell lies; a block word is named by its address
abbrev pub address : Shape → Cell → ℕ
address s FinishWord = 0
address s (CarryWord processor) = 1 + processor
address s (DeadWord processor) = 1 + s.processors + processor
address s (RestartWord place) = place_at s place
address s (MessageWord place) = place_at s place + 1
address s (HolderWord place) = place_at s place + 2
address s (Top place) = place_at s place + 3
address s (RoomCounter place) = place_at s place + 4
address s (EntryWord place slot) = place_at s place + 5 + slot
address s (BlockWord at) = at
address s (ArrayWord index) = arrays_at s + index

-- an address in the pool of some place
pub record IsInPool (s : Shape) (at : ℕ) : Type 0 where
  pub place : ℕ
  pub is_place : place < s.processors
  pub begun : pool_at s place ≤ at
  pub ended : at < pool_at s place + s.room

-- the cells that a shape has, where block words are those of the pools
abbrev pub IsCell : Shape → Cell → Type 0
IsCell s FinishWord = Unit {0}
IsCell s (CarryWord processor) = processor < s.processors
IsCell s (DeadWord processor) = processor < s.processors
IsCell s (RestartWord place) = place < s.processors
IsCell s (MessageWord place) = place < s.processors
IsCell s (HolderWord place) = place < s.processors
IsCell s (Top place) = place < s.processors
IsCell s (RoomCounter place) = place < s.processors
IsCell s (EntryWord place slot) = (place < s.processors) × (slot < s.slots)
IsCell s (BlockWord at) = IsInPool s at
IsCell s (ArrayWord index) = index < s.arrays

-- the cells of a shape, where a block word may have any address below the count
abbrev pub IsAddressable : Shape → Cell → Type 0
IsAddressable s FinishWord = Unit {0}
IsAddressable s (CarryWord processor) = processor < s.processors
IsAddressable s (DeadWord processor) = processor < s.processors
IsAddressable s (RestartWord place) = place < s.processors
IsAddressable s (MessageWord place) = place < s.processors
IsAddressable s (HolderWord place) = place < s.processors
IsAddressable s (Top place) = place < s.processors
IsAddressable s (RoomCounter place) = place < s.processors
IsAddressable s (EntryWord place slot) = (place < s.processors) × (slot < s.slots)
IsAddressable s (BlockWord at) = at < word_count s
IsAddressable s (ArrayWord index) = index < s.arrays

-- each cell lies within the words
abbrev pub CellsAreWithin : Shape → Type 0
CellsAreWithin s = (c : Cell) → IsCell s c → IsAddressable s c × (address s c < word_count s)

-- cells of one address are one cell
abbrev pub AddressesDiffer : Shape → Type 0
AddressesDiffer s = (c d : Cell) → IsCell s c → IsCell s d → address s c ≡ address s d → c ≡ d

-- each address below the count is that of a cell
abbrev pub AddressesAreCells : Shape → Type 0
AddressesAreCells s = (at : ℕ) → at < word_count s → (c : Cell) × IsCell s c × (address s c ≡ at)
