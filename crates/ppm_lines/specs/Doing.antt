-- What a processor is at before a turn, and what that is of.
use Rattle.std.specs.Prelude.{ℕ, ◌+◌, if◌then◌else◌, List, ◌∷◌, ◌++◌, codes, decimal, Option, Some, None}
use Rattle.ppm_cells.specs.declared.cell.Cell.TheVariants.{EntryWord}
use Rattle.ppm_cells.specs.declared.restart.Restart.{Restart}
use Rattle.ppm_cells.specs.declared.restart.RestartKind.{RestartKind}
use Rattle.ppm_cells.specs.declared.restart.RestartKind.TheVariants.{Run, Bump, Push1, Push2, Unwind, Arrive, Join, Pop1, Pop2, Seek, Steal, Check, Take, Take2}
use Rattle.ppm_cells.specs.declared.side.Side.{Side}
use Rattle.ppm_naming.specs.declared.names.Names.{Names}
use Rattle.ppm_naming.specs.Cells.{procedure_text, cell_text}
use Rattle.ppm_naming.specs.Values.{restart_name, side_name}
use Rattle.ppm_step.specs.Standings.{Standing, IsLost, IsPlaced, IsAt, IsWithin, IsRunning, IsBroken, IsDone}
use Rattle.ppm_lines.specs.declared.doing.Doing.{Doing}
use Rattle.ppm_lines.specs.declared.doing.Doing.TheVariants.{Lost, Placed, InRow, Broken, Done}
use Rattle.ppm_lines.specs.Scene.{Scene, word_at, procedure_of, is_fork_block}

-- a row, if its restart word can be read
abbrev pub row_with : Option Restart → Doing
row_with None = Broken
row_with (Some restart) = InRow restart.kind

-- what a processor is at
abbrev pub doing_of : Standing → Doing
doing_of IsLost = Lost
doing_of (IsPlaced place) = Placed
doing_of (IsAt place restart) = row_with restart
doing_of (IsWithin seat row) = InRow seat.restart.kind
doing_of (IsRunning seat rest) = InRow seat.restart.kind
doing_of (IsBroken place) = Broken
doing_of IsDone = Done

-- how it is called
abbrev pub row_text : Doing → List ℕ
row_text Lost = codes "lost"
row_text Placed = codes "placed"
row_text (InRow kind) = restart_name kind
row_text Broken = codes "broken"
row_text Done = codes "done"

-- a procedure, if there is one
abbrev pub procedure_by : Names → (procedure : Option ℕ) → List ℕ
procedure_by names None = codes "?"
procedure_by names (Some procedure) = procedure_text names procedure

-- a frame: its procedure, and its address
abbrev pub frame_text : Scene → (frame : ℕ) → List ℕ
frame_text scene frame = procedure_by scene.names (procedure_of scene frame) ++ 64 ∷ decimal frame

-- a fork block, and a block of a call
abbrev pub fork_text : (block : ℕ) → List ℕ
fork_text block = codes "fork@" ++ decimal block

abbrev pub call_text : (block : ℕ) → List ℕ
call_text block = codes "call@" ++ decimal block

-- a frame, and the capsule with which it goes on
abbrev pub run_text : Scene → (frame copy : ℕ) → List ℕ
run_text scene frame copy = frame_text scene frame ++ 46 ∷ decimal (word_at scene (frame + 2 + copy))

-- a block that is built, of a fork or of a call
abbrev pub block_text : Scene → (block : ℕ) → List ℕ
block_text scene block = if is_fork_block scene block then fork_text block else call_text block

-- a branch of a fork block
abbrev pub branch_text : (block : ℕ) → Side → List ℕ
branch_text block side = fork_text block ++ 46 ∷ side_name side

-- a place
abbrev pub place_text : (place : ℕ) → List ℕ
place_text place = codes "place." ++ decimal place

-- what a row is of
abbrev pub of_row : Scene → RestartKind → List ℕ
of_row scene (Run frame copy) = run_text scene frame copy
of_row scene (Bump block) = block_text scene block
of_row scene (Push1 block) = fork_text block
of_row scene (Push2 block) = fork_text block
of_row scene (Unwind frame) = frame_text scene frame
of_row scene (Arrive block side) = branch_text block side
of_row scene (Join block side) = branch_text block side
of_row scene Pop1 = codes "-"
of_row scene (Pop2 block) = fork_text block
of_row scene Seek = codes "-"
of_row scene (Steal victim slot) = cell_text scene.names scene.lengths (EntryWord victim slot)
of_row scene (Check victim slot) = cell_text scene.names scene.lengths (EntryWord victim slot)
of_row scene (Take victim dead) = place_text victim
of_row scene (Take2 victim) = place_text victim

abbrev pub of_text : Scene → Doing → List ℕ
of_text scene Lost = codes "-"
of_text scene Placed = codes "-"
of_text scene (InRow kind) = of_row scene kind
of_text scene Broken = codes "-"
of_text scene Done = codes "-"
