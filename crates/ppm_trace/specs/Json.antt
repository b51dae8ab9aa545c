-- A trace in the trace event format: a head, the events of each turn that is told, and a tail.
use Rattle.std.specs.Prelude.{ℕ, ◌==◌, if◌then◌else◌, List, [], ◌∷◌, ◌++◌, Option, Some, None}
use Rattle.std.specs.List.{flat_map, range_with_len}
use Rattle.ppm_core.specs.Situation.{Situation}
use Rattle.ppm_lines.specs.Events.{begun_text, events_text, json_head, json_tail}
use Rattle.ppm_lines.specs.Line.{line_text}
use Rattle.ppm_picture.specs.Strokes.{Drawn, drawn_of}
use Rattle.ppm_lines.specs.Shown.{is_shown}
use Rattle.ppm_naming.specs.declared.names.Names.{Names}
use Rattle.ppm_step.specs.declared.turn.Turn.{Turn}
use Rattle.ppm_trace.specs.Picture.{dead_lanes, told_dead, told_drawn, trace_picture}
use Rattle.ppm_trace.specs.Trace.{along_turns, is_told, shown_line, trace_text}
use Rattle.ppm_lines.specs.declared.form.Form.{Form}
use Rattle.ppm_lines.specs.declared.form.Form.TheVariants.{Lines, Events, Picture}

-- the beginning of the row within which a processor stands
abbrev pub begun_of : Names → Situation → (processor : ℕ) → List ℕ
begun_of names m processor = begun_text names m.array_lengths m.shape m.code m.turns processor m.state

-- of all processors, before the first act that is told
abbrev pub begun_rows : Names → (from : ℕ) → Situation → List ℕ
begun_rows names from m = if m.turns == from then flat_map (begun_of names m) (range_with_len 0 m.shape.processors) else []

-- what is written of a turn that is told
abbrev pub written_events : Names → (from : ℕ) → Situation → Turn → List ℕ
written_events names from m turn =
    begun_rows names from m ++ events_text names m.array_lengths m.shape m.code m.turns m.state turn

-- and of any turn
abbrev pub told_events : Names → (from : ℕ) → Situation → Turn → List ℕ
told_events names from m turn = if is_told from m then written_events names from m turn else []

-- the trace of turns
abbrev pub trace_events : Names → (from : ℕ) → Situation → List Turn → List ℕ
trace_events names from m turns = json_head m.shape.processors ++ along_turns (told_events names from) m turns ++ json_tail

-- what is written of a turn that is told, in a form
abbrev pub written_as : Names → Form → (from : ℕ) → Situation → Turn → List ℕ
written_as names (Lines only) from m turn =
    if is_shown m.shape m.code only m.state turn then line_text names m.array_lengths m.shape m.code m.turns m.state turn else []
written_as names Events from m turn = written_events names from m turn
written_as names Picture from m turn = dead_lanes from m

-- and of any turn
abbrev pub told_as : Names → Form → (from : ℕ) → Situation → Turn → List ℕ
told_as names (Lines only) from = shown_line names only from
told_as names Events from = told_events names from
told_as names Picture from = told_dead from

-- what is kept of a turn for its picture, in a form
abbrev pub kept_as : Names → Form → Situation → Turn → List Drawn
kept_as names (Lines only) m turn = []
kept_as names Events m turn = []
kept_as names Picture m turn = drawn_of names m.array_lengths m.shape m.code m.state turn ∷ []

-- and of any turn, if it is told
abbrev pub drawn_as : Names → Form → (from : ℕ) → Situation → Turn → List Drawn
drawn_as names (Lines only) from m turn = []
drawn_as names Events from m turn = []
drawn_as names Picture from m turn = told_drawn names from m turn

-- what is written of a turn that is told, and of any turn, if a form is asked for
abbrev pub written_if : Names → Option Form → (from : ℕ) → Situation → Turn → List ℕ
written_if names None from m turn = []
written_if names (Some form) from m turn = written_as names form from m turn

abbrev pub told_if : Names → Option Form → (from : ℕ) → Situation → Turn → List ℕ
told_if names None from m turn = []
told_if names (Some form) from m turn = told_as names form from m turn

-- what is kept of a turn for its picture, if a form is asked for, and of any turn
abbrev pub kept_if : Names → Option Form → Situation → Turn → List Drawn
kept_if names None m turn = []
kept_if names (Some form) m turn = kept_as names form m turn

abbrev pub drawn_if : Names → Option Form → (from : ℕ) → Situation → Turn → List Drawn
drawn_if names None from m turn = []
drawn_if names (Some form) from m turn = drawn_as names form from m turn

-- the trace of turns in a form
abbrev pub trace_as : Names → Form → (from : ℕ) → Situation → List Turn → List ℕ
trace_as names (Lines only) from m turns = trace_text names only from m turns
trace_as names Events from m turns = trace_events names from m turns
trace_as names Picture from m turns = trace_picture names from m turns
