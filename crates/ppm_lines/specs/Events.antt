-- A turn as events of the trace event format: objects of JSON, each in a line, for a viewer of traces. A microsecond stands for an act.
-- Texts stand between quotation marks as they are, since none of them has a sign that JSON escapes: names of a source have letters, digits and `_`
-- alone, and what is written beside them has letters, digits, blanks and the signs `: @ . ? -`.
use Rattle.std.specs.Prelude.{ℕ, ◌+◌, if◌then◌else◌, Bool, true, false, List, [], ◌++◌, Option, Some, None, codes, decimal}
use Rattle.std.specs.List.{flat_map, range_with_len}
use Rattle.ppm_cells.specs.declared.restart.RestartKind.{RestartKind}
use Rattle.ppm_cells.specs.declared.restart.RestartKind.TheVariants.{Run}
use Rattle.ppm_cells.specs.declared.shape.Shape.{Shape}
use Rattle.ppm_code.specs.declared.code.CodeParts.{CodeParts}
use Rattle.ppm_lines.specs.Marks.{marks_at}
use Rattle.ppm_lines.specs.declared.mark.Mark.{Mark}
use Rattle.ppm_lines.specs.declared.mark.Mark.TheVariants as mark
use Rattle.ppm_naming.specs.declared.names.Names.{Names}
use Rattle.ppm_naming.specs.Values.{restart_name}
use Rattle.ppm_step.specs.Standings.{Standing, IsWithin, IsRunning}
use Rattle.ppm_step.specs.State.{State, stand_of, stand_after, want_of, found_in}
use Rattle.ppm_step.specs.Told.{place_of}
use Rattle.ppm_step.specs.declared.turn.Turn.{Turn}
use Rattle.ppm_lines.specs.declared.doing.Doing.{Doing}
use Rattle.ppm_lines.specs.declared.doing.Doing.TheVariants.{InRow}
use Rattle.ppm_lines.specs.declared.event.Moment.{Moment}
use Rattle.ppm_lines.specs.declared.edge.Edge.{Edge}
use Rattle.ppm_lines.specs.declared.edge.Edge.TheVariants.{Begins, Ends, Stays}
use Rattle.ppm_lines.specs.declared.flow.Flow.{Flow}
use Rattle.ppm_lines.specs.Doing.{doing_of, of_row, procedure_by}
use Rattle.ppm_lines.specs.Flows.{flow_at, flow_phase, flow_name, flow_id}
use Rattle.ppm_lines.specs.Line.{scene_of}
use Rattle.ppm_lines.specs.Scene.{Scene, procedure_of}

-- of which thread an event is, and at what time
abbrev pub time_text : (processor time : ℕ) → List ℕ
time_text processor time = codes ",\"pid\":0,\"tid\":" ++ decimal processor ++ codes ",\"ts\":" ++ decimal time

-- a row by its name: in Run that of its procedure, else that of its kind
abbrev pub slice_name : Scene → RestartKind → List ℕ
slice_name scene (Run frame copy) = procedure_by scene.names (procedure_of scene frame)
slice_name scene kind = restart_name kind

-- the beginning of a row
abbrev pub begin_text : Scene → Moment → RestartKind → List ℕ
begin_text scene moment kind =
    codes ",\n{\"ph\":\"B\",\"cat\":\"" ++ restart_name kind ++ codes "\",\"name\":\"" ++ slice_name scene kind ++ codes "\""
    ++ time_text moment.processor moment.number
    ++ codes ",\"args\":{\"of\":\"" ++ of_row scene kind ++ codes "\",\"place\":" ++ decimal moment.place ++ codes "}}"

-- its end, as the act ends
abbrev pub end_text : Moment → List ℕ
end_text moment = codes ",\n{\"ph\":\"E\"" ++ time_text moment.processor (moment.number + 1) ++ codes "}"

-- an end of an arrow
abbrev pub flow_text : Moment → Flow → List ℕ
flow_text moment flow =
    codes ",\n{\"ph\":\"" ++ flow_phase flow ++ codes "\",\"cat\":\"" ++ flow_name flow ++ codes "\",\"name\":\"" ++ flow_name flow
    ++ codes "\",\"id\":" ++ decimal (flow_id flow) ++ time_text moment.processor moment.number ++ codes "}"

abbrev pub flow_event : Moment → Option Flow → List ℕ
flow_event moment None = []
flow_event moment (Some flow) = flow_text moment flow

-- a point in time
abbrev pub instant_text : Moment → (name : List ℕ) → List ℕ
instant_text moment name =
    codes ",\n{\"ph\":\"i\",\"s\":\"t\",\"cat\":\"mark\",\"name\":\"" ++ name ++ codes "\"" ++ time_text moment.processor moment.number
    ++ codes ",\"args\":{\"place\":" ++ decimal moment.place ++ codes "}}"

-- the marks that are points in time; others are arrows, or are told by rows alone
abbrev pub mark_event : Moment → Mark → List ℕ
mark_event moment mark.Soft = instant_text moment (codes "soft fault")
mark_event moment mark.Hard = instant_text moment (codes "hard fault")
mark_event moment mark.Won = instant_text moment (codes "theft won")
mark_event moment mark.Lost = instant_text moment (codes "theft lost")
mark_event moment mark.Carries = instant_text moment (codes "takeover")
mark_event moment mark.Heir = instant_text moment (codes "heir")
mark_event moment mark.End = instant_text moment (codes "end")
mark_event moment _ = []

-- whether a processor is within a row
abbrev pub is_in_row : Standing → Bool
is_in_row (IsWithin seat row) = true
is_in_row (IsRunning seat rest) = true
is_in_row _ = false

-- a row begins or ends, by whether it is within one before a turn and after it
abbrev pub edge_between : (before after : Bool) → Edge
edge_between false true = Begins
edge_between true false = Ends
edge_between false false = Stays
edge_between true true = Stays

-- the beginning of the row that a processor is at
abbrev pub opened : Scene → Moment → Doing → List ℕ
opened scene moment (InRow kind) = begin_text scene moment kind
opened scene moment _ = []

abbrev pub opened_by : Scene → Moment → Doing → Edge → List ℕ
opened_by scene moment doing Begins = opened scene moment doing
opened_by scene moment doing Ends = []
opened_by scene moment doing Stays = []

abbrev pub closed_by : Moment → Edge → List ℕ
closed_by moment Begins = []
closed_by moment Ends = end_text moment
closed_by moment Stays = []

-- who acts, from where, and after how many acts
abbrev pub moment_of : (number processor : ℕ) → Standing → Moment
moment_of number processor standing = record { number = number; processor = processor; place = place_of standing }

module _ (scene : Scene) (turn : Turn) (standing : Standing) where
  -- where the processor stands after the turn
  abbrev pub next_standing : Standing
  next_standing =
      let want = want_of scene.shape scene.code turn.processor turn.act standing in
      stand_after scene.shape scene.code turn.processor turn.act (found_in scene.words want) standing

  -- whether a row begins or ends by it
  abbrev pub edge_of : Edge
  edge_of = edge_between (is_in_row standing) (is_in_row next_standing)

  -- the events: a row begins, arrows begin or end, points in time, a row ends
  abbrev pub events_at : (number : ℕ) → List ℕ
  events_at number =
      let moment = moment_of number turn.processor standing in
      opened_by scene moment (doing_of standing) edge_of
      ++ flow_event moment (flow_at scene turn.act standing)
      ++ flat_map (mark_event moment) (marks_at scene.shape scene.code scene.words turn.act standing)
      ++ closed_by moment edge_of

-- the events of a turn, before which there were so many
abbrev pub events_text : Names → (lengths : List ℕ) → Shape → CodeParts → (number : ℕ) → State → Turn → List ℕ
events_text names lengths s code number state turn =
    events_at (scene_of names lengths s code state) turn (stand_of state turn.processor) number

-- the beginning of the row within which a processor stands, as what is told begins there
abbrev pub begun_at : Scene → (number processor : ℕ) → Standing → List ℕ
begun_at scene number processor standing =
    if is_in_row standing then opened scene (moment_of number processor standing) (doing_of standing) else []

abbrev pub begun_text : Names → (lengths : List ℕ) → Shape → CodeParts → (number processor : ℕ) → State → List ℕ
begun_text names lengths s code number processor state =
    begun_at (scene_of names lengths s code state) number processor (stand_of state processor)

-- the name of a thread
abbrev pub thread_text : (processor : ℕ) → List ℕ
thread_text processor =
    codes ",\n{\"ph\":\"M\",\"name\":\"thread_name\",\"pid\":0,\"tid\":" ++ decimal processor
    ++ codes ",\"args\":{\"name\":\"processor " ++ decimal processor ++ codes "\"}}"

-- what comes before all events, and what after
abbrev pub json_head : (processors : ℕ) → List ℕ
json_head processors =
    codes "{\"displayTimeUnit\":\"ns\",\"traceEvents\":[\n{\"ph\":\"M\",\"name\":\"process_name\",\"pid\":0,\"args\":{\"name\":\"ppm\"}}"
    ++ flat_map thread_text (range_with_len 0 processors)

abbrev pub json_tail : List ℕ
json_tail = codes "\n]}\n"
