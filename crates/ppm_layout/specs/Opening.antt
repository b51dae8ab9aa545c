-- The opening words: what stands in each cell of a machine before its first step.
use Rattle.std.specs.Prelude.{ℕ, ◌+◌, ◌-◌, ◌==◌, nat_le, if◌then◌else◌, ℤ, List, [], ◌∷◌, Option, Some, None, length, map, take, get_or, slice_get}
use Rattle.ppm_words.specs.Inputs.{value_count}
use Rattle.ppm_words.specs.declared.named_array.NamedArray.{NamedArray}
use Rattle.ppm_cells.specs.Cells.{pool_at}
use Rattle.ppm_cells.specs.Entry.{entry_word}
use Rattle.ppm_cells.specs.Finish.{finish_word}
use Rattle.ppm_cells.specs.Holder.{holder_word}
use Rattle.ppm_cells.specs.Link.{link_word}
use Rattle.ppm_cells.specs.Region.{region_word}
use Rattle.ppm_cells.specs.Restart.{restart_word}
use Rattle.ppm_cells.specs.declared.cell.Cell.{Cell}
use Rattle.ppm_cells.specs.declared.cell.Cell.TheVariants.{FinishWord, CarryWord, DeadWord, RestartWord, MessageWord, HolderWord}
use Rattle.ppm_cells.specs.declared.cell.Cell.TheVariants.{Top, RoomCounter, EntryWord, BlockWord, ArrayWord}
use Rattle.ppm_cells.specs.declared.entry.Entry.{Entry}
use Rattle.ppm_cells.specs.declared.entry.Entry.TheVariants.{Empty, Local, Taken}
use Rattle.ppm_cells.specs.declared.finish.Finish.TheVariants.{Unset, Ended}
use Rattle.ppm_cells.specs.declared.holder.Holder.{Holder}
use Rattle.ppm_cells.specs.declared.link.Link.{Link}
use Rattle.ppm_cells.specs.declared.link.LinkKind.TheVariants.{Root}
use Rattle.ppm_cells.specs.declared.region.Region.{Region}
use Rattle.ppm_cells.specs.declared.restart.Restart.{Restart}
use Rattle.ppm_cells.specs.declared.restart.RestartKind.TheVariants.{Run, Seek}
use Rattle.ppm_cells.specs.declared.shape.Shape.{Shape}
use Rattle.ppm_code.specs.declared.code.CodeParts.{CodeParts}
use Rattle.ppm_code.specs.Inputs.{words_in}
use Rattle.ppm_code.specs.Sizes.{frame_size}
use Rattle.ppm_code.specs.Strands.{entry_of}

-- the values of an array; none where there is no array
abbrev pub values_in : Option NamedArray → List ℤ
values_in None = []
values_in (Some a) = a.values

-- the region of a whole array, by its number: the arrays lie one after the other
abbrev pub whole_array : List NamedArray → ℕ → Region
whole_array input number = record { start = value_count (take number input); length = length (values_in (slice_get input number)) }

-- the link of the root's frame, which leads nowhere
abbrev pub root_link : ℕ → Link
root_link size = record { kind = Root; size = size }

-- the root's frame: link, outcome, the capsule with which it begins, the other header, value, target, and the regions of its
-- arrays in its first slots; the slots after these are 0, as all that is not in use
abbrev pub root_frame : CodeParts → List NamedArray → List ℕ
root_frame code input =
    link_word (root_link (frame_size code code.root)) ∷ finish_word Ended ∷ entry_of code code.root ∷ 0 ∷ 0 ∷ 0
    ∷ map (λ number. region_word (whole_array input number)) code.arrays

-- the entry in a slot: below the bottom one is taken, at the bottom stands the place's own strand
abbrev pub first_entry : (slot : ℕ) → Entry
first_entry slot = if slot == 0 then Taken 0 0 else (if slot == 1 then Local 0 0 else Empty 0)

-- a place is held by the processor of its number
abbrev pub first_holder : (place : ℕ) → Holder
first_holder place = record { tag = 0; processor = place }

-- what a place does: the keeper's runs the root's frame, all others look for work
abbrev pub first_restart : Shape → (keeper place : ℕ) → Restart
first_restart s keeper place = record { kind = if place == keeper then Run (pool_at s keeper) 0 else Seek; bottom = 1 }

-- the first word of its pool that is free, where the root's frame has so many words
abbrev pub first_room : Shape → (keeper size place : ℕ) → ℕ
first_room s keeper size place = if place == keeper then pool_at s place + size else pool_at s place

-- a word of the pools, by its address: the root's frame begins the pool of the keeper's place, and all else is 0
abbrev pub first_block : Shape → (keeper : ℕ) → (frame : List ℕ) → (at : ℕ) → ℕ
first_block s keeper frame at = if nat_le (pool_at s keeper) at then get_or frame (at - pool_at s keeper) 0 else 0

-- the word with which a cell opens, where the root's frame has so many words, of which these are not 0, and the arrays have these
module _ (s : Shape) (keeper size : ℕ) (frame arrays : List ℕ) where
  abbrev pub opening_with : Cell → ℕ
  opening_with FinishWord = finish_word Unset
  opening_with (CarryWord processor) = processor
  opening_with (DeadWord processor) = 0
  opening_with (RestartWord place) = restart_word (first_restart s keeper place)
  opening_with (MessageWord place) = 0
  opening_with (HolderWord place) = holder_word (first_holder place)
  opening_with (Top place) = 1
  opening_with (RoomCounter place) = first_room s keeper size place
  opening_with (EntryWord place slot) = entry_word (first_entry slot)
  opening_with (BlockWord at) = first_block s keeper frame at
  opening_with (ArrayWord index) = get_or arrays index 0

-- the word with which a cell opens, for a code, its input, the machine's shape and the keeper
abbrev pub opening : CodeParts → List NamedArray → Shape → (keeper : ℕ) → Cell → ℕ
opening code input s keeper = opening_with s keeper (frame_size code code.root) (root_frame code input) (words_in input)
