-- The line of an address: of the cell that lies there, or of the frame or fork block that begins there.
use Rattle.std.specs.Prelude.{ℕ, ◌+◌, ◌-◌, nat_lt, if◌then◌else◌, Bool, true, false, Option, Some, None, List, [], ◌∷◌, ◌++◌}
use Rattle.std.specs.List.{flat_map, range_with_len}
use Rattle.ppm_cells.specs.Cells.{address}
use Rattle.ppm_cells.specs.Entry.{entry_of}
use Rattle.ppm_cells.specs.declared.cell.Cell.{Cell}
use Rattle.ppm_cells.specs.declared.cell.Cell.TheVariants.{Top, EntryWord, BlockWord, ArrayWord}
use Rattle.ppm_cells.specs.declared.entry.Entry.{Entry}
use Rattle.ppm_cells.specs.declared.entry.Entry.TheVariants.{Empty, Local, Job, Taken}
use Rattle.ppm_lines.specs.Doing.{frame_text, fork_text}
use Rattle.ppm_lines.specs.Line.{field}
use Rattle.ppm_lines.specs.Parts.{frame_part, fork_part}
use Rattle.ppm_lines.specs.Scene.{Scene, word_at, size_of, link_at, is_fork_block}
use Rattle.ppm_lines.specs.Texts.{frame_part_kind, fork_part_kind}
use Rattle.ppm_naming.specs.Addresses.{addressed}
use Rattle.ppm_naming.specs.Cells.{cell_text, kind_of}
use Rattle.ppm_naming.specs.Values.{value_text}
use Rattle.ppm_naming.specs.declared.kind.WordKind.{WordKind}
use Rattle.ppm_naming.specs.declared.kind.WordKind.TheVariants as kind
use Rattle.ppm_show.specs.Routes.{is_shown_block}
use Rattle.ppm_show.specs.Subjects.{subject_of, link_subject}

-- the first two fields: a name, and what stands there
abbrev pub named_value : (name value : List ℕ) → List ℕ
named_value name value = field 18 name ++ field 22 value

-- the line of a word of the machine: its name, what it stands for, and what that is of
abbrev pub cell_line : Scene → (word : ℕ) → Cell → List ℕ
cell_line scene word cell =
    named_value (cell_text scene.names scene.lengths cell) (value_text (kind_of cell) word) ++ subject_of scene word cell ++ 10 ∷ []

-- the line of an array word: its name and its number
abbrev pub element_line : Scene → (word : ℕ) → Cell → List ℕ
element_line scene word cell = cell_text scene.names scene.lengths cell ++ 32 ∷ value_text kind.Signed word ++ 10 ∷ []

-- whether an entry has a line: it is not empty
abbrev pub is_entry_filled : Option Entry → Bool
is_entry_filled None = true
is_entry_filled (Some (Empty tag)) = false
is_entry_filled (Some (Local tag block)) = true
is_entry_filled (Some (Job tag block)) = true
is_entry_filled (Some (Taken tag taker)) = true

-- the line of an entry, from the top of its deque on
abbrev pub entry_line : Scene → (word place slot : ℕ) → List ℕ
entry_line scene word place slot =
    if nat_lt slot (word_at scene (address scene.shape (Top place))) then []
    else (if is_entry_filled (entry_of word) then cell_line scene word (EntryWord place slot) else [])

-- how a word of a frame or of a fork block is written, this far from its first one
abbrev pub inner_kind : (is_fork : Bool) (offset : ℕ) → WordKind
inner_kind is_fork offset = if is_fork then fork_part_kind (fork_part offset) else frame_part_kind (frame_part offset)

-- how many words of it its line has; the frames of a fork block have their own
abbrev pub inner_size : Scene → (at : ℕ) (is_fork : Bool) → ℕ
inner_size scene at is_fork = if is_fork then 5 else size_of scene at

-- a word of it after a blank
abbrev pub inner_text : Scene → (at : ℕ) (is_fork : Bool) (offset : ℕ) → List ℕ
inner_text scene at is_fork offset = 32 ∷ value_text (inner_kind is_fork offset) (word_at scene (at + offset))

-- all its words but the first
abbrev pub inner_texts : Scene → (at : ℕ) (is_fork : Bool) → List ℕ
inner_texts scene at is_fork = flat_map (inner_text scene at is_fork) (range_with_len 1 (inner_size scene at is_fork - 1))

-- its name
abbrev pub block_name : Scene → (at : ℕ) (is_fork : Bool) → List ℕ
block_name scene at is_fork = if is_fork then fork_text at else frame_text scene at

-- its line: its name, its link, what that leads to, and its other words in their order
abbrev pub block_line_as : Scene → (at : ℕ) (is_fork : Bool) → List ℕ
block_line_as scene at is_fork =
    named_value (block_name scene at is_fork) (value_text kind.Link (word_at scene at)) ++ link_subject scene (link_at scene at)
    ++ inner_texts scene at is_fork ++ 10 ∷ []

abbrev pub block_line : Scene → (at : ℕ) → List ℕ
block_line scene at = block_line_as scene at (is_fork_block scene at)

-- the line of a frame or fork block, if it is shown; most words of a pool begin none that is
abbrev pub shown_block_line : Scene → (at : ℕ) → List ℕ
shown_block_line scene at = if is_shown_block scene at then block_line scene at else []

-- the line of a cell, if it has one
abbrev pub line_of : Scene → (at word : ℕ) → Cell → List ℕ
line_of scene at word (EntryWord place slot) = entry_line scene word place slot
line_of scene at word (BlockWord block) = shown_block_line scene at
line_of scene at word (ArrayWord index) = element_line scene word (ArrayWord index)
line_of scene at word cell = cell_line scene word cell

-- the line of an address
abbrev pub line_at : Scene → (at : ℕ) → List ℕ
line_at scene at = line_of scene at (word_at scene at) (addressed scene.shape at)
