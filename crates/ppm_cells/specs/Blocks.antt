-- The words of a frame and of a fork block, by their names.
use Rattle.std.specs.Prelude.{ℕ, ◌+◌}
use Rattle.ppm_cells.specs.declared.cell.Cell.{Cell}
use Rattle.ppm_cells.specs.declared.cell.Cell.TheVariants.{BlockWord}

-- of a frame: what came of it, the header of either copy, its value, where that goes, and its slots
abbrev pub outcome_word : (frame : ℕ) → Cell
outcome_word frame = BlockWord (frame + 1)

abbrev pub header_word : (frame copy : ℕ) → Cell
header_word frame copy = BlockWord (frame + 2 + copy)

abbrev pub value_word : (frame : ℕ) → Cell
value_word frame = BlockWord (frame + 4)

abbrev pub target_word : (frame : ℕ) → Cell
target_word frame = BlockWord (frame + 5)

abbrev pub slot_word : (frame slot : ℕ) → Cell
slot_word frame slot = BlockWord (frame + 6 + slot)

-- of a fork block: which branch was first, what came of each, and where the right one's frame lies
abbrev pub order_word : (block : ℕ) → Cell
order_word block = BlockWord (block + 1)

abbrev pub left_outcome_word : (block : ℕ) → Cell
left_outcome_word block = BlockWord (block + 2)

abbrev pub right_outcome_word : (block : ℕ) → Cell
right_outcome_word block = BlockWord (block + 3)

abbrev pub offset_word : (block : ℕ) → Cell
offset_word block = BlockWord (block + 4)

-- where the left one's frame lies
abbrev pub left_frame : (block : ℕ) → ℕ
left_frame block = block + 5
