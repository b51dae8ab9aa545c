-- The cell of each address: `address` of ppm_cells read backwards.
use Rattle.std.specs.Prelude.{ℕ, ◌+◌, ◌-◌, ◌*◌, ◌/◌, ◌%◌, ◌==◌, nat_lt, if◌then◌else◌}
use Rattle.ppm_cells.specs.declared.shape.Shape.{Shape}
use Rattle.ppm_cells.specs.declared.cell.Cell.{Cell}
use Rattle.ppm_cells.specs.declared.cell.Cell.TheVariants.{FinishWord, CarryWord, DeadWord, RestartWord, MessageWord, HolderWord}
use Rattle.ppm_cells.specs.declared.cell.Cell.TheVariants.{Top, RoomCounter, EntryWord, BlockWord, ArrayWord}
use Rattle.ppm_cells.specs.Cells.{place_size, arrays_at}

-- the cell of a place that lies so far from its first word, at this address
abbrev pub in_place : Shape → (place offset at : ℕ) → Cell
in_place s place offset at =
    if offset == 0 then RestartWord place
    else (if offset == 1 then MessageWord place
    else (if offset == 2 then HolderWord place
    else (if offset == 3 then Top place
    else (if offset == 4 then RoomCounter place
    else (if nat_lt offset (5 + s.slots) then EntryWord place (offset - 5)
    else BlockWord at)))))

-- the cell that lies so far from the first word of the first place
abbrev pub in_places : Shape → (far at : ℕ) → Cell
in_places s far at = in_place s (far / place_size s) (far % place_size s) at

-- the cell that has this address
abbrev pub addressed : Shape → (at : ℕ) → Cell
addressed s at =
    if at == 0 then FinishWord
    else (if nat_lt at (1 + s.processors) then CarryWord (at - 1)
    else (if nat_lt at (1 + 2 * s.processors) then DeadWord (at - (1 + s.processors))
    else (if nat_lt at (arrays_at s) then in_places s (at - (1 + 2 * s.processors)) at
    else ArrayWord (at - arrays_at s))))
