-- What a picture shows of a turn, by the machine before it.
use Rattle.std.specs.Prelude.{ℕ, ◌%◌, nat_lt, if◌then◌else◌, List, Option, Some, None}
use Rattle.ppm_cells.specs.Holder.{holder_of}
use Rattle.ppm_cells.specs.Memory.{read}
use Rattle.ppm_cells.specs.declared.cell.Cell.TheVariants.{HolderWord}
use Rattle.ppm_cells.specs.declared.holder.Holder.{Holder}
use Rattle.ppm_cells.specs.declared.restart.RestartKind.{RestartKind}
use Rattle.ppm_cells.specs.declared.restart.RestartKind.TheVariants.{Run, Bump, Unwind, Seek, Steal, Check, Take, Take2}
use Rattle.ppm_cells.specs.declared.shape.Shape.{Shape}
use Rattle.ppm_cells.specs.declared.shape.Takeover.{Takeover}
use Rattle.ppm_cells.specs.declared.shape.Takeover.TheVariants.{ByPlaces, ByEntries}
use Rattle.ppm_code.specs.declared.code.CodeParts.{CodeParts}
use Rattle.ppm_lines.specs.Marks.{marks_at}
use Rattle.ppm_lines.specs.declared.mark.Mark.{Mark}
use Rattle.ppm_naming.specs.declared.names.Names.{Names}
use Rattle.ppm_step.specs.Standings.{Standing}
use Rattle.ppm_step.specs.State.{State, stand_of}
use Rattle.ppm_step.specs.declared.turn.Turn.{Turn}
use Rattle.ppm_lines.specs.declared.doing.Doing.{Doing}
use Rattle.ppm_lines.specs.declared.doing.Doing.TheVariants.{Lost, Placed, InRow, Broken, Done}
use Rattle.ppm_lines.specs.declared.edge.Edge.{Edge}
use Rattle.ppm_picture.specs.declared.paint.Paint.{Paint}
use Rattle.ppm_picture.specs.declared.paint.Paint.TheVariants.{Placing, Looking, Running, Forking, Stealing, TakingOver}
use Rattle.ppm_lines.specs.Doing.{doing_of}
use Rattle.ppm_lines.specs.Events.{edge_of}
use Rattle.ppm_lines.specs.Line.{scene_of}
use Rattle.ppm_lines.specs.Scene.{Scene, procedure_of, is_fork_block}

-- who acts, as what its lane is painted, whether a row begins or ends, the marks, and the lane from which an arrow leads to it
pub record Drawn : Type 0 where
  pub processor : ℕ
  pub paint : Option Paint
  pub edge : Edge
  pub marks : List Mark
  pub source : ℕ

-- a row of a procedure: there are eight colours
abbrev pub paint_by : (procedure : Option ℕ) → Paint
paint_by None = Forking
paint_by (Some procedure) = Running (procedure % 8)

-- a row that ends the building of a block: of a fork, or of a call
abbrev pub building_paint : Scene → (block : ℕ) → Paint
building_paint scene block = if is_fork_block scene block then Forking else paint_by (procedure_of scene block)

-- a row of this kind
abbrev pub row_paint : Scene → RestartKind → Paint
row_paint scene (Run frame copy) = paint_by (procedure_of scene frame)
row_paint scene (Unwind frame) = paint_by (procedure_of scene frame)
row_paint scene (Bump block) = building_paint scene block
row_paint scene Seek = Looking
row_paint scene (Steal victim slot) = Stealing
row_paint scene (Check victim slot) = Stealing
row_paint scene (Take victim dead) = TakingOver
row_paint scene (Take2 victim) = TakingOver
row_paint scene _ = Forking

-- as what a lane is painted whose processor is at this
abbrev pub paint_of : Scene → Doing → Option Paint
paint_of scene Lost = Some Placing
paint_of scene Placed = Some Placing
paint_of scene (InRow kind) = Some (row_paint scene kind)
paint_of scene Broken = None
paint_of scene Done = None

-- who holds a place by its holder word
abbrev pub held_by : (place : ℕ) → Option Holder → ℕ
held_by place None = place
held_by place (Some holder) = holder.processor

-- the lane of who is robbed of a place's work: the processor that carries the place, or under takeovers of entries its own
abbrev pub robbed_under : Scene → (place : ℕ) → Takeover → ℕ
robbed_under scene place ByEntries = place
robbed_under scene place ByPlaces = held_by place (holder_of (read scene.shape scene.words (HolderWord place)))

abbrev pub robbed : Scene → (place : ℕ) → ℕ
robbed scene place = if nat_lt place scene.shape.processors then robbed_under scene place scene.shape.takeover else place

-- the lane from which a row of this kind gets what it is after; its own for all others
abbrev pub source_in : Scene → (own : ℕ) → RestartKind → ℕ
source_in scene own (Check victim slot) = robbed scene victim
source_in scene own (Take2 victim) = victim
source_in scene own _ = own

abbrev pub source_of : Scene → (own : ℕ) → Doing → ℕ
source_of scene own (InRow kind) = source_in scene own kind
source_of scene own _ = own

-- what is shown of a turn whose processor stands there
abbrev pub drawn_at : Scene → Turn → Standing → Drawn
drawn_at scene turn standing = record {
  processor = turn.processor;
  paint = paint_of scene (doing_of standing);
  edge = edge_of scene turn standing;
  marks = marks_at scene.shape scene.code scene.words turn.act standing;
  source = source_of scene turn.processor (doing_of standing);
}

-- what is shown of a turn
abbrev pub drawn_of : Names → (lengths : List ℕ) → Shape → CodeParts → State → Turn → Drawn
drawn_of names lengths s code state turn = drawn_at (scene_of names lengths s code state) turn (stand_of state turn.processor)
