-- Which frames and fork blocks are shown: those on the way from what a place goes on with up to the root, and branches that aren't over.
use Rattle.std.specs.Prelude.{ℕ, ◌+◌, ◌==◌, if◌then◌else◌, Bool, List, [], ◌∷◌, ◌++◌, map, Option, Some, None}
use Rattle.std.specs.List.{flat_map, range_with_len}
use Rattle.ppm_cells.specs.Blocks.{left_frame}
use Rattle.ppm_cells.specs.Cells.{word_count}
use Rattle.ppm_cells.specs.Entry.{entry_of}
use Rattle.ppm_cells.specs.Restart.{restart_of}
use Rattle.ppm_cells.specs.declared.cell.Cell.{Cell}
use Rattle.ppm_cells.specs.declared.cell.Cell.TheVariants.{RestartWord, MessageWord, EntryWord}
use Rattle.ppm_cells.specs.declared.entry.Entry.{Entry}
use Rattle.ppm_cells.specs.declared.entry.Entry.TheVariants.{Empty, Local, Job, Taken}
use Rattle.ppm_cells.specs.declared.link.Link.{Link}
use Rattle.ppm_cells.specs.declared.link.LinkKind.{LinkKind}
use Rattle.ppm_cells.specs.declared.link.LinkKind.TheVariants.{Root, Call, Branch, Fork}
use Rattle.ppm_cells.specs.declared.restart.Restart.{Restart}
use Rattle.ppm_cells.specs.declared.restart.RestartKind.{RestartKind}
use Rattle.ppm_cells.specs.declared.restart.RestartKind.TheVariants.{Run, Bump, Push1, Push2, Unwind, Arrive, Join, Pop1, Pop2, Seek, Steal, Check, Take, Take2}
use Rattle.ppm_lines.specs.Scene.{Scene, word_at, link_at, is_fork_block}
use Rattle.ppm_naming.specs.Addresses.{addressed}
use Rattle.ppm_show.specs.Paths.{path, is_in}

-- the frame that goes on once a block is over, or the fork block in which a branch ends
abbrev pub end_of_kind : LinkKind → Option ℕ
end_of_kind Root = None
end_of_kind (Call frame copy) = Some frame
end_of_kind (Branch side block) = Some block
end_of_kind (Fork frame copy) = Some frame

abbrev pub end_of_link : Option Link → Option ℕ
end_of_link None = None
end_of_link (Some link) = end_of_kind link.kind

-- where the end of a frame or of a branch leads
abbrev pub leads_to : Scene → (at : ℕ) → Option ℕ
leads_to scene at = end_of_link (link_at scene at)

-- a route: a frame or block, that to which its end leads, and so on, as far as there are words
abbrev pub route : Scene → (from : Option ℕ) → List ℕ
route scene from = path (leads_to scene) (word_count scene.shape) from

-- what a place goes on with by its restart word
abbrev pub gone_on_with : RestartKind → Option ℕ
gone_on_with (Run frame copy) = Some frame
gone_on_with (Bump block) = Some block
gone_on_with (Push1 block) = Some block
gone_on_with (Push2 block) = Some block
gone_on_with (Unwind frame) = Some frame
gone_on_with (Arrive block side) = Some block
gone_on_with (Join block side) = Some block
gone_on_with Pop1 = None
gone_on_with (Pop2 block) = Some block
gone_on_with Seek = None
gone_on_with (Steal victim slot) = None
gone_on_with (Check victim slot) = None
gone_on_with (Take victim dead) = None
gone_on_with (Take2 victim) = None

abbrev pub begun_by_restart : Option Restart → Option ℕ
begun_by_restart None = None
begun_by_restart (Some restart) = gone_on_with restart.kind

-- the fork block of an entry: of a job, or of a local one that a pop got back; 0 is none
abbrev pub block_of : Entry → ℕ
block_of (Empty tag) = 0
block_of (Local tag block) = block
block_of (Job tag block) = block
block_of (Taken tag taker) = 0

-- whether a branch isn't over: it has left no outcome in its block
abbrev pub left_lasts : Scene → (block : ℕ) → Bool
left_lasts scene block = word_at scene (block + 2) == 0

abbrev pub right_lasts : Scene → (block : ℕ) → Bool
right_lasts scene block = word_at scene (block + 3) == 0

-- the fork block of an entry, as long as its right branch isn't over
abbrev pub if_lasting : Scene → (block : ℕ) → Option ℕ
if_lasting scene block = if block == 0 then None else (if right_lasts scene block then Some block else None)

abbrev pub begun_by_entry : Scene → Option Entry → Option ℕ
begun_by_entry scene None = None
begun_by_entry scene (Some entry) = if_lasting scene (block_of entry)

-- where a route begins by the word of a cell: at what a place goes on with, or at a fork whose right branch waits to be run
abbrev pub begun_by : Scene → (word : ℕ) → Cell → Option ℕ
begun_by scene word (RestartWord place) = begun_by_restart (restart_of word)
begun_by scene word (MessageWord place) = begun_by_entry scene (entry_of word)
begun_by scene word (EntryWord place slot) = begun_by_entry scene (entry_of word)
begun_by scene word cell = None

abbrev pub begun_at : Scene → (at : ℕ) → Option ℕ
begun_at scene at = begun_by scene (word_at scene at) (addressed scene.shape at)

-- all that lies on a route
abbrev pub on_routes : Scene → List ℕ
on_routes scene = flat_map (λ at. route scene (begun_at scene at)) (range_with_len 0 (word_count scene.shape))

-- the frames of the branches of a fork block that aren't over
abbrev pub left_branch : Scene → (block : ℕ) → List ℕ
left_branch scene block = if left_lasts scene block then left_frame block ∷ [] else []

abbrev pub right_branch : Scene → (block : ℕ) → List ℕ
right_branch scene block = if right_lasts scene block then (block + word_at scene (block + 4)) ∷ [] else []

abbrev pub branches : Scene → (block : ℕ) → List ℕ
branches scene block = if is_fork_block scene block then left_branch scene block ++ right_branch scene block else []

-- the frames and fork blocks that are shown
abbrev pub shown_blocks : Scene → List ℕ
shown_blocks scene = on_routes scene ++ flat_map (branches scene) (on_routes scene)

-- whether a frame or fork block begins there that is shown
abbrev pub is_shown_block : Scene → (at : ℕ) → Bool
is_shown_block scene at = is_in (shown_blocks scene) at

-- a mark for each address: whether it is in the list
abbrev pub marks_of : Scene → List ℕ → List Bool
marks_of scene blocks = map (is_in blocks) (range_with_len 0 (word_count scene.shape))
