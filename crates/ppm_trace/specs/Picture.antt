-- A trace as a picture, in SVG. What is shown of a turn is a function of the machine before it and of the turn; how wide an act is, the number of all
-- acts that are told says.
use Rattle.std.specs.Prelude.{ℕ, ◌==◌, nat_lt, if◌then◌else◌, List, [], ◌∷◌, ◌++◌, length, max, codes}
use Rattle.std.specs.List.{flat_map, range_with_len}
use Rattle.ppm_cells.specs.Memory.{read}
use Rattle.ppm_cells.specs.declared.cell.Cell.TheVariants.{DeadWord}
use Rattle.ppm_cells.specs.declared.shape.Shape.{Shape}
use Rattle.ppm_cells.specs.declared.shape.Takeover.{Takeover}
use Rattle.ppm_cells.specs.declared.shape.Takeover.TheVariants.{ByPlaces, ByEntries}
use Rattle.ppm_core.specs.Situation.{Situation, finish_in, run_on}
use Rattle.ppm_naming.specs.declared.names.Names.{Names}
use Rattle.ppm_picture.specs.Drawing.{dead_lane_text, middle_text, top_text}
use Rattle.ppm_picture.specs.Legend.{legend_text}
use Rattle.ppm_picture.specs.Markup.{grouped}
use Rattle.ppm_picture.specs.Strokes.{Drawn, drawn_of}
use Rattle.ppm_picture.specs.declared.canvas.Canvas.{Canvas}
use Rattle.ppm_step.specs.declared.turn.Turn.{Turn}
use Rattle.ppm_trace.specs.Counts.{no_counts}
use Rattle.ppm_trace.specs.Trace.{along_turns, counts_along, is_told}
use Rattle.ppm_trace.specs.declared.counts.Counts.{Counts}

-- the canvas of so many acts, of which there may be none
abbrev pub canvas_of : (processors from acts : ℕ) → Canvas
canvas_of processors from acts = record { acts = max acts 1; from = from; processors = processors }

-- what is shown of a turn, if it is told
abbrev pub told_drawn : Names → (from : ℕ) → Situation → Turn → List Drawn
told_drawn names from m turn =
    if is_told from m then drawn_of names m.array_lengths m.shape m.code m.state turn ∷ [] else []

-- the lane of a processor, if it is dead
abbrev pub dead_lane : Situation → (processor : ℕ) → List ℕ
dead_lane m processor =
    if nat_lt 0 (read m.shape m.state.words (DeadWord processor)) then dead_lane_text processor else []

-- those of all that are dead before the first act that is told
abbrev pub dead_lanes : (from : ℕ) → Situation → List ℕ
dead_lanes from m = if m.turns == from then flat_map (dead_lane m) (range_with_len 0 m.shape.processors) else []

abbrev pub told_dead : (from : ℕ) → Situation → Turn → List ℕ
told_dead from m turn = if is_told from m then dead_lanes from m else []

-- what others take over of a processor that stopped
abbrev pub by_text : Takeover → List ℕ
by_text ByPlaces = codes " by places</text>\n"
by_text ByEntries = codes " by entries</text>\n"

-- the second line over the lanes: what was counted
abbrev pub counted_text : Counts → List ℕ
counted_text c =
    codes "<text class=\"t u\" x=\"6400\" y=\"4100\">forks " ++ grouped c.forks ++ codes ", taken " ++ grouped c.takes
    ++ codes ", thefts won " ++ grouped c.won ++ codes ", lost " ++ grouped c.lost ++ codes ", soft faults " ++ grouped c.soft
    ++ codes ", hard faults " ++ grouped c.hard ++ codes ", takeovers " ++ grouped c.takeovers

abbrev pub counts_text : Counts → Takeover → List ℕ
counts_text c takeover = counted_text c ++ by_text takeover

-- the picture of what is shown, with the dotted lanes, the counts and the finish word
abbrev pub picture_text : Names → Shape → Canvas → List Drawn → (dead : List ℕ) → Counts → (finish : ℕ) → List ℕ
picture_text names s canvas drawn dead c finish =
    top_text canvas c.acts finish ++ counts_text c s.takeover ++ middle_text canvas drawn dead ++ legend_text canvas names

-- the picture of turns
abbrev pub trace_picture : Names → (from : ℕ) → Situation → List Turn → List ℕ
trace_picture names from m turns =
    let drawn = along_turns (told_drawn names from) m turns in
    picture_text names m.shape (canvas_of m.shape.processors from (length drawn)) drawn (along_turns (told_dead from) m turns)
    (counts_along from no_counts m turns) (finish_in (run_on m turns))
