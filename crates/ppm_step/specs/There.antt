-- Whether what a word names is there: cells, and what a restart word goes on with.
use Rattle.std.specs.Prelude.{ℕ, nat_lt, nat_le, Bool, true, ◌&&◌}
use Rattle.ppm_cells.specs.Cells.{word_count}
use Rattle.ppm_cells.specs.declared.cell.Cell.{Cell}
use Rattle.ppm_cells.specs.declared.cell.Cell.TheVariants.{FinishWord, CarryWord, DeadWord, RestartWord, MessageWord, HolderWord, Top, RoomCounter, EntryWord, BlockWord, ArrayWord}
use Rattle.ppm_cells.specs.declared.restart.Restart.{Restart}
use Rattle.ppm_cells.specs.declared.restart.RestartKind.{RestartKind}
use Rattle.ppm_cells.specs.declared.restart.RestartKind.TheVariants.{Run, Bump, Push1, Push2, Unwind, Arrive, Join, Pop1, Pop2, Seek, Steal, Check, Take, Take2}
use Rattle.ppm_cells.specs.declared.shape.Shape.{Shape}

-- the cell is one of the shape's; block words are any whose addresses do not pass the words
abbrev pub is_there : Shape → Cell → Bool
is_there s FinishWord = true
is_there s (CarryWord processor) = nat_lt processor s.processors
is_there s (DeadWord processor) = nat_lt processor s.processors
is_there s (RestartWord place) = nat_lt place s.processors
is_there s (MessageWord place) = nat_lt place s.processors
is_there s (HolderWord place) = nat_lt place s.processors
is_there s (Top place) = nat_lt place s.processors
is_there s (RoomCounter place) = nat_lt place s.processors
is_there s (EntryWord place slot) = nat_lt place s.processors && nat_lt slot s.slots
is_there s (BlockWord address) = nat_lt address (word_count s)
is_there s (ArrayWord index) = nat_lt index s.arrays

-- frames and blocks lie within the words, a copy is 0 or 1, places and processors are there, and slots are
abbrev pub kind_is_there : Shape → RestartKind → Bool
kind_is_there s (Run frame copy) = nat_lt frame (word_count s) && nat_lt copy 2
kind_is_there s (Bump block) = nat_lt block (word_count s)
kind_is_there s (Push1 block) = nat_lt block (word_count s)
kind_is_there s (Push2 block) = nat_lt block (word_count s)
kind_is_there s (Unwind frame) = nat_lt frame (word_count s)
kind_is_there s (Arrive block side) = nat_lt block (word_count s)
kind_is_there s (Join block side) = nat_lt block (word_count s)
kind_is_there s Pop1 = true
kind_is_there s (Pop2 block) = nat_lt block (word_count s)
kind_is_there s Seek = true
kind_is_there s (Steal victim slot) = nat_lt victim s.processors && nat_lt slot s.slots
kind_is_there s (Check victim slot) = nat_lt victim s.processors && nat_lt slot s.slots
kind_is_there s (Take victim dead) = nat_lt victim s.processors && nat_lt dead s.processors
kind_is_there s (Take2 victim) = nat_lt victim s.processors

-- a bottom is a slot, and not the first
abbrev pub bottom_is_there : Shape → ℕ → Bool
bottom_is_there s bottom = nat_le 1 bottom && nat_lt bottom s.slots

-- a restart whose bottom and kind are there
abbrev pub restart_is_there : Shape → Restart → Bool
restart_is_there s restart = bottom_is_there s restart.bottom && kind_is_there s restart.kind
