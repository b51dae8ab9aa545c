-- What the word of a line is of: its third field.
use Rattle.std.specs.Prelude.{ℕ, ◌+◌, ◌-◌, ◌^◌, ◌%◌, ◌==◌, ◌&&◌, nat_le, nat_lt, if◌then◌else◌, List, ◌∷◌, ◌++◌, Option, Some, None, codes, decimal}
use Rattle.ppm_cells.specs.Cells.{address, pool_at}
use Rattle.ppm_cells.specs.Entry.{entry_of}
use Rattle.ppm_cells.specs.Holder.{holder_of}
use Rattle.ppm_cells.specs.Restart.{restart_of}
use Rattle.ppm_cells.specs.declared.cell.Cell.{Cell}
use Rattle.ppm_cells.specs.declared.cell.Cell.TheVariants.{FinishWord, CarryWord, DeadWord, RestartWord, MessageWord, HolderWord}
use Rattle.ppm_cells.specs.declared.cell.Cell.TheVariants.{Top, RoomCounter, EntryWord, BlockWord, ArrayWord}
use Rattle.ppm_cells.specs.declared.entry.Entry.{Entry}
use Rattle.ppm_cells.specs.declared.entry.Entry.TheVariants.{Empty, Local, Job, Taken}
use Rattle.ppm_cells.specs.declared.holder.Holder.{Holder}
use Rattle.ppm_cells.specs.declared.link.Link.{Link}
use Rattle.ppm_cells.specs.declared.link.LinkKind.{LinkKind}
use Rattle.ppm_cells.specs.declared.link.LinkKind.TheVariants.{Root, Call, Branch, Fork}
use Rattle.ppm_cells.specs.declared.restart.Restart.{Restart}
use Rattle.ppm_cells.specs.declared.side.Side.TheVariants.{Right}
use Rattle.ppm_lines.specs.Doing.{run_text, branch_text, place_text, of_row}
use Rattle.ppm_lines.specs.Scene.{Scene, word_at}
use Rattle.ppm_show.specs.Routes.{right_lasts}

-- whether a processor is dead, by its dead word
abbrev pub life_text : (dead : ℕ) → List ℕ
life_text dead = if dead == 0 then codes "alive" else (if dead == 1 then codes "dead" else codes "?")

-- whether a processor is dead, by its number; there may be no such processor
abbrev pub life_of : Scene → (processor : ℕ) → List ℕ
life_of scene processor =
    if nat_lt processor scene.shape.processors then life_text (word_at scene (address scene.shape (DeadWord processor))) else codes "?"

-- the row of a place, as a trace tells it
abbrev pub restart_subject : Scene → Option Restart → List ℕ
restart_subject scene None = codes "?"
restart_subject scene (Some restart) = of_row scene restart.kind

-- the right branch of a fork block, if it isn't over
abbrev pub waiting_text : Scene → (block : ℕ) → List ℕ
waiting_text scene block =
    if block == 0 then codes "-" else (if right_lasts scene block then branch_text block Right else codes "-")

-- the branch that an entry is of, or the place that took it
abbrev pub entry_text_of : Scene → Entry → List ℕ
entry_text_of scene (Empty tag) = codes "-"
entry_text_of scene (Local tag block) = waiting_text scene block
entry_text_of scene (Job tag block) = waiting_text scene block
entry_text_of scene (Taken tag taker) = place_text (taker % 64)

abbrev pub entry_subject : Scene → Option Entry → List ℕ
entry_subject scene None = codes "?"
entry_subject scene (Some entry) = entry_text_of scene entry

-- whether the processor of a holder word is dead
abbrev pub holder_subject : Scene → Option Holder → List ℕ
holder_subject scene None = codes "?"
holder_subject scene (Some holder) = life_of scene holder.processor

-- of a message: that of the entry or the holder word that it is
abbrev pub message_subject : Scene → (word : ℕ) → List ℕ
message_subject scene word =
    if word == 0 then codes "-"
    else (if nat_lt word (2 ^ 62) then holder_subject scene (holder_of word) else entry_subject scene (entry_of word))

-- how many words of so many are used; `?` where the counter is not in its pool
abbrev pub used_text : (begun room counter : ℕ) → List ℕ
used_text begun room counter =
    if nat_le begun counter && nat_le counter (begun + room) then decimal (counter - begun) ++ 47 ∷ decimal room else codes "?"

-- the third field of a cell's line
abbrev pub subject_of : Scene → (word : ℕ) → Cell → List ℕ
subject_of scene word FinishWord = codes "-"
subject_of scene word (CarryWord processor) = life_of scene processor
subject_of scene word (DeadWord processor) = codes "-"
subject_of scene word (RestartWord place) = restart_subject scene (restart_of word)
subject_of scene word (MessageWord place) = message_subject scene word
subject_of scene word (HolderWord place) = holder_subject scene (holder_of word)
subject_of scene word (Top place) = codes "-"
subject_of scene word (RoomCounter place) = used_text (pool_at scene.shape place) scene.shape.room word
subject_of scene word (EntryWord place slot) = entry_subject scene (entry_of word)
subject_of scene word (BlockWord at) = codes "-"
subject_of scene word (ArrayWord index) = codes "-"

-- where the end of a block leads: a frame with the capsule that goes on, or a branch
abbrev pub link_kind_subject : Scene → LinkKind → List ℕ
link_kind_subject scene Root = codes "-"
link_kind_subject scene (Call frame copy) = run_text scene frame copy
link_kind_subject scene (Branch side block) = branch_text block side
link_kind_subject scene (Fork frame copy) = run_text scene frame copy

abbrev pub link_subject : Scene → Option Link → List ℕ
link_subject scene None = codes "?"
link_subject scene (Some link) = link_kind_subject scene link.kind
