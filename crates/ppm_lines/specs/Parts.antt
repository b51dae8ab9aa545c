-- Which word a turn is about: a cell of the machine, or a part of a frame or of a block by the row that is under way.
use Rattle.std.specs.Prelude.{ℕ, ◌+◌, ◌-◌, ◌==◌, ◌&&◌, nat_lt, nat_le, if◌then◌else◌, Bool, Option, Some, None}
use Rattle.ppm_cells.specs.Cells.{address}
use Rattle.ppm_cells.specs.declared.cell.Cell.{Cell}
use Rattle.ppm_cells.specs.declared.cell.Cell.TheVariants.{RoomCounter, BlockWord}
use Rattle.ppm_cells.specs.declared.link.Link.{Link}
use Rattle.ppm_cells.specs.declared.link.LinkKind.{LinkKind}
use Rattle.ppm_cells.specs.declared.link.LinkKind.TheVariants.{Root, Call, Branch, Fork}
use Rattle.ppm_cells.specs.declared.restart.RestartKind.{RestartKind}
use Rattle.ppm_cells.specs.declared.restart.RestartKind.TheVariants.{Run, Bump, Push1, Push2, Unwind, Arrive, Join, Pop1, Pop2, Seek, Steal, Check, Take, Take2}
use Rattle.ppm_naming.specs.Addresses.{addressed}
use Rattle.ppm_step.specs.Standings.{Standing, IsLost, IsPlaced, IsAt, IsWithin, IsRunning, IsBroken, IsDone, wanted}
use Rattle.ppm_step.specs.State.{is_step, seeks_holder}
use Rattle.ppm_step.specs.declared.ask.Want.{Want}
use Rattle.ppm_step.specs.declared.ask.Want.TheVariants.{Loads, Stores, Exchanges, Nothing}
use Rattle.ppm_step.specs.declared.row.Point.TheVariants.{Offset, ClosedLink}
use Rattle.ppm_step.specs.declared.row.Row.{Row}
use Rattle.ppm_step.specs.declared.row.Row.TheVariants.{Now}
use Rattle.ppm_step.specs.declared.row.Then.TheVariants.{Load}
use Rattle.ppm_step.specs.declared.turn.Act.{Act}
use Rattle.ppm_step.specs.declared.turn.Act.TheVariants.{Step, Soft, Hard, Quit}
use Rattle.ppm_step.specs.declared.turn.Turn.{Turn}
use Rattle.ppm_lines.specs.declared.part.FramePart.{FramePart}
use Rattle.ppm_lines.specs.declared.part.FramePart.TheVariants.{FrameLink, Outcome, FirstHeader, SecondHeader, GivenValue, Target, Slot}
use Rattle.ppm_lines.specs.declared.part.ForkPart.{ForkPart}
use Rattle.ppm_lines.specs.declared.part.ForkPart.TheVariants.{ForkLink, Order, LeftOutcome, RightOutcome, RightOffset}
use Rattle.ppm_lines.specs.declared.part.Part.{Part}
use Rattle.ppm_lines.specs.declared.part.Part.TheVariants.{NoWord, SomeHolder, OfMachine, InFrame, InFork, InCall, New, LinkAt, Elsewhere}
use Rattle.ppm_lines.specs.Scene.{Scene, word_at, size_of, link_at, is_fork_block}

-- the word of a frame this far from its first one
abbrev pub frame_part : (offset : ℕ) → FramePart
frame_part offset =
    if offset == 0 then FrameLink
    else (if offset == 1 then Outcome
    else (if offset == 2 then FirstHeader
    else (if offset == 3 then SecondHeader
    else (if offset == 4 then GivenValue
    else (if offset == 5 then Target
    else Slot (offset - 6))))))

-- the word of a fork block this far from its first one, before its frames
abbrev pub fork_part : (offset : ℕ) → ForkPart
fork_part offset =
    if offset == 0 then ForkLink
    else (if offset == 1 then Order
    else (if offset == 2 then LeftOutcome
    else (if offset == 3 then RightOutcome
    else RightOffset)))

-- a word of the frame that begins there; one below it is elsewhere
abbrev pub in_frame : (frame at : ℕ) → Part
in_frame frame at = if nat_lt at frame then Elsewhere at else InFrame frame (frame_part (at - frame))

-- a word of the frames of a fork block, this far from its first word; the right one lies at the offset
abbrev pub in_frames : (block offset far : ℕ) → Part
in_frames block offset far =
    if nat_lt far offset then InFrame (block + 5) (frame_part (far - 5)) else InFrame (block + offset) (frame_part (far - offset))

-- a word of a fork block, this far from its first one
abbrev pub in_block : Scene → (block far : ℕ) → Part
in_block scene block far = if nat_lt far 5 then InFork block (fork_part far) else in_frames block (word_at scene (block + 4)) far

abbrev pub in_fork : Scene → (block at : ℕ) → Part
in_fork scene block at = if nat_lt at block then Elsewhere at else in_block scene block (at - block)

-- Unwind: a word of the frame, or of what its link names
abbrev pub by_link : Scene → (at : ℕ) → LinkKind → Part
by_link scene at Root = Elsewhere at
by_link scene at (Call frame copy) = in_frame frame at
by_link scene at (Branch side block) = in_fork scene block at
by_link scene at (Fork frame copy) = Elsewhere at

abbrev pub linked : Scene → (at : ℕ) → Option Link → Part
linked scene at None = Elsewhere at
linked scene at (Some link) = by_link scene at link.kind

-- whether an address is one of so many from this one on
abbrev pub is_within : (from size at : ℕ) → Bool
is_within from size at = nat_le from at && nat_lt at (from + size)

abbrev pub in_unwound : Scene → (frame at : ℕ) → Part
in_unwound scene frame at =
    if is_within frame (size_of scene frame) at then in_frame frame at else linked scene at (link_at scene frame)

-- Run: a word of the frame, or from the room counter on
abbrev pub new_at : (counter at : ℕ) → Part
new_at counter at = if nat_lt at counter then Elsewhere at else New counter (at - counter)

abbrev pub in_run : Scene → (place frame at : ℕ) → Part
in_run scene place frame at =
    if is_within frame (size_of scene frame) at then in_frame frame at
    else new_at (word_at scene (address scene.shape (RoomCounter place))) at

-- the rows of a fork block: a word of the block, or of the frame that forked
abbrev pub by_forker : (at : ℕ) → LinkKind → Part
by_forker at Root = Elsewhere at
by_forker at (Call frame copy) = Elsewhere at
by_forker at (Branch side block) = Elsewhere at
by_forker at (Fork frame copy) = in_frame frame at

abbrev pub in_forked : Scene → (block at : ℕ) → Option Link → Part
in_forked scene block at None = Elsewhere at
in_forked scene block at (Some link) =
    if is_within block link.size at then in_fork scene block at else by_forker at link.kind

-- the link of a block that is built
abbrev pub in_built : Scene → (block : ℕ) → Part
in_built scene block = if is_fork_block scene block then InFork block ForkLink else InCall block

-- a word of a pool, by the kind of the restart word
abbrev pub part_in : Scene → (place at : ℕ) → RestartKind → Part
part_in scene place at (Run frame copy) = in_run scene place frame at
part_in scene place at (Bump block) = in_built scene block
part_in scene place at (Push1 block) = in_forked scene block at (link_at scene block)
part_in scene place at (Push2 block) = in_forked scene block at (link_at scene block)
part_in scene place at (Unwind frame) = in_unwound scene frame at
part_in scene place at (Arrive block side) = in_forked scene block at (link_at scene block)
part_in scene place at (Join block side) = in_forked scene block at (link_at scene block)
part_in scene place at Pop1 = Elsewhere at
part_in scene place at (Pop2 block) = in_forked scene block at (link_at scene block)
part_in scene place at Seek = Elsewhere at
part_in scene place at (Steal victim slot) = Elsewhere at
part_in scene place at (Check victim slot) = Elsewhere at
part_in scene place at (Take victim dead) = Elsewhere at
part_in scene place at (Take2 victim) = Elsewhere at

-- two loads name their block themselves
abbrev pub part_sought : Row → Option Part
part_sought (Now (Load (Offset block bottom))) = Some (InFork block RightOffset)
part_sought (Now (Load (ClosedLink block))) = Some (LinkAt block)
part_sought row = None

abbrev pub part_or : Part → Option Part → Part
part_or part None = part
part_or part (Some found) = found

-- a word of a pool, by where the processor stands
abbrev pub part_by : Scene → (at : ℕ) → Standing → Part
part_by scene at (IsWithin seat row) = part_or (part_in scene seat.place at seat.restart.kind) (part_sought row)
part_by scene at (IsRunning seat rest) = part_in scene seat.place at seat.restart.kind
part_by scene at IsLost = Elsewhere at
part_by scene at (IsPlaced place) = Elsewhere at
part_by scene at (IsAt place restart) = Elsewhere at
part_by scene at (IsBroken place) = Elsewhere at
part_by scene at IsDone = Elsewhere at

-- a word of a pool, or another cell
abbrev pub part_of_cell : Scene → Standing → Cell → Part
part_of_cell scene standing (BlockWord at) = part_by scene at standing
part_of_cell scene standing cell = OfMachine cell

abbrev pub part_at : Scene → Standing → (at : ℕ) → Part
part_at scene standing at = part_of_cell scene standing (addressed scene.shape at)

-- the word of a word step
abbrev pub part_asked : Scene → Standing → Want → Part
part_asked scene standing (Loads at) = part_at scene standing at
part_asked scene standing (Stores at word) = part_at scene standing at
part_asked scene standing (Exchanges at old new) = part_at scene standing at
part_asked scene standing Nothing = NoWord

-- the word step that comes next, or in whose place a fault comes, which names no victim
abbrev pub victim_of : Act → ℕ
victim_of (Step victim) = victim
victim_of Soft = 0
victim_of Hard = 0
victim_of (Quit why) = 0

abbrev pub coming : Scene → Turn → Standing → Want
coming scene turn standing = wanted scene.shape turn.processor (victim_of turn.act) standing

-- the word of a turn
abbrev pub part_of : Scene → Turn → Standing → Part
part_of scene turn standing =
    if is_step turn.act then part_asked scene standing (coming scene turn standing)
    else (if seeks_holder standing then SomeHolder else part_asked scene standing (coming scene turn standing))
