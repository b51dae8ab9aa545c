-- The text of a trace: its head, a line for each turn that is shown, and its tail.
use Rattle.std.specs.Prelude.{ℕ, nat_le, if◌then◌else◌, ◌&&◌, Bool, List, [], ◌∷◌, ◌++◌, codes, decimal}
use Rattle.ppm_cells.specs.declared.shape.Shape.{Shape}
use Rattle.ppm_cells.specs.declared.shape.Takeover.{Takeover}
use Rattle.ppm_cells.specs.declared.shape.Takeover.TheVariants.{ByPlaces, ByEntries}
use Rattle.ppm_core.specs.Situation.{Situation, finish_in, run_on, turned}
use Rattle.ppm_lines.specs.Line.{line_text}
use Rattle.ppm_lines.specs.Marks.{marks_of}
use Rattle.ppm_lines.specs.Shown.{is_shown}
use Rattle.ppm_lines.specs.declared.shown.Only.{Only}
use Rattle.ppm_naming.specs.Values.{value_text}
use Rattle.ppm_naming.specs.declared.kind.WordKind.TheVariants.{Finish}
use Rattle.ppm_naming.specs.declared.names.Names.{Names}
use Rattle.ppm_step.specs.declared.turn.Turn.{Turn}
use Rattle.ppm_trace.specs.Counts.{no_counts, counted}
use Rattle.ppm_trace.specs.declared.counts.Counts.{Counts}

-- what the turns of a run tell, each by the situation before it
abbrev pub along_turns : {X : Type 0} → (Situation → Turn → List X) → Situation → List Turn → List X
along_turns told m [] = []
along_turns told m (turn ∷ turns) = told m turn ++ along_turns told (turned m turn) turns

-- a turn is told from this act on; acts count from 0
abbrev pub is_told : (from : ℕ) → Situation → Bool
is_told from m = nat_le from m.turns

-- its line, if it is told and shown
abbrev pub shown_line : Names → Only → (from : ℕ) → Situation → Turn → List ℕ
shown_line names only from m turn =
    if is_told from m && is_shown m.shape m.code only m.state turn
    then line_text names m.array_lengths m.shape m.code m.turns m.state turn else []

-- what is counted with a turn, if it is told
abbrev pub told_counts : (from : ℕ) → Counts → Situation → Turn → Counts
told_counts from c m turn = if is_told from m then counted c (marks_of m.shape m.code m.state turn) else c

-- and with those of a run
abbrev pub counts_along : (from : ℕ) → Counts → Situation → List Turn → Counts
counts_along from c m [] = c
counts_along from c m (turn ∷ turns) = counts_along from (told_counts from c m turn) (turned m turn) turns

-- a number with its name
abbrev pub named : List ℕ → ℕ → List ℕ
named name n = name ++ decimal n

-- what others take over of a processor that stopped
abbrev pub takeover_text : Takeover → List ℕ
takeover_text ByPlaces = codes " takeover place"
takeover_text ByEntries = codes " takeover entry"

-- the names of the columns
abbrev pub columns : List ℕ
columns = codes "act    who at row    of               step  word               value"

-- the sizes of the machine
abbrev pub sizes_text : Shape → List ℕ
sizes_text s =
    named (codes "processors ") s.processors ++ named (codes " room ") s.room ++ named (codes " slots ") s.slots
    ++ takeover_text s.takeover

-- the form, these sizes, and from which act on the run is told
abbrev pub head_text : Shape → (from : ℕ) → List ℕ
head_text s from =
    codes "ppm trace 1" ++ 10 ∷ [] ++ sizes_text s ++ named (codes " from ") from ++ 10 ∷ [] ++ columns ++ 10 ∷ []

-- what was counted, and what the finish word says
abbrev pub tail_text : Counts → (finish : ℕ) → List ℕ
tail_text c finish =
    named (codes "acts ") c.acts ++ named (codes " forks ") c.forks ++ named (codes " takes ") c.takes
    ++ named (codes " tries ") c.tries ++ named (codes " won ") c.won ++ named (codes " soft ") c.soft
    ++ named (codes " hard ") c.hard ++ named (codes " takeovers ") c.takeovers
    ++ codes " finish " ++ value_text Finish finish ++ 10 ∷ []

-- the trace of turns
abbrev pub trace_text : Names → Only → (from : ℕ) → Situation → List Turn → List ℕ
trace_text names only from m turns =
    head_text m.shape from ++ along_turns (shown_line names only from) m turns
    ++ tail_text (counts_along from no_counts m turns) (finish_in (run_on m turns))
