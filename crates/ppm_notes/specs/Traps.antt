-- What is said of a trap, or of a run whose turns are spent, after its line.
use Rattle.std.specs.Prelude.{ℕ, List, [], ◌++◌, codes, decimal, if◌then◌else◌, nat_eq}
use Rattle.std.specs.Fmt.{signed_decimal}
use Rattle.std.specs.List.{flat_map}
use Rattle.ppm_words.specs.declared.trap.Trap.{Trap}
use Rattle.ppm_words.specs.declared.trap.Trap.TheVariants as trap
use Rattle.ppm_by_name.specs.declared.held.Held.{Held}
use Rattle.ppm_by_name.specs.declared.held.Held.TheVariants as held
use Rattle.ppm_by_name.specs.declared.held.Reading.{Reading}
use Rattle.ppm_trapped.specs.declared.told.Told.{Told}
use Rattle.ppm_standing.specs.declared.stood.Stood.{Stood}
use Rattle.ppm_explain.specs.Meanings.{note_text}
use Rattle.ppm_explain.specs.Places.{line_bytes, line_text, shown_text}

-- what a name stands for: a number, or a region of so many words
abbrev pub held_text : Held → List ℕ
held_text (held.Value v) = codes " is " ++ signed_decimal v
held_text (held.Words n) = codes " has length " ++ decimal n

-- a name that is read, and what it stands for
abbrev pub reading_text : Reading → List ℕ
reading_text r = codes "name: `" ++ r.name ++ codes "`" ++ held_text r.held ++ codes "\n"

-- the end of a line with a line in which a name is declared
abbrev pub declared_text : ℕ → List ℕ
declared_text line = codes "` in line " ++ decimal line ++ codes "\n"

-- the procedure in whose body the run traps or stands, with the line of its name
abbrev pub procedure_text : List ℕ → ℕ → List ℕ
procedure_text name line = codes "procedure: `" ++ name ++ declared_text line

-- what a trap means
abbrev pub trap_meaning : Trap → List ℕ
trap_meaning trap.Overflow = codes "a sum, a difference, a product, a quotient or a `-` of this line is no number from -9223372036854775808 to 9223372036854775807"
trap_meaning trap.DivZero = codes "a `/` or a `%` of this line has 0 on its right"
trap_meaning trap.Index = codes "an index of this line is below 0, or not below the length of its region"
trap_meaning trap.Split = codes "the number of this line at which the region is split is below 0, or above the length of the region"

-- the notes of a trap: its line, the names that are read there with what they stand for, the procedure, and what the trap means
abbrev pub trap_notes : List ℕ → Told → List ℕ
trap_notes text t =
    (line_text t.line ++ shown_text (line_bytes text t.line)) ++ flat_map reading_text t.values ++ procedure_text t.procedure t.procedure_line ++ note_text (trap_meaning t.trap)

-- the line of the innermost call, if one is open
abbrev pub innermost_text : ℕ → ℕ → List ℕ
innermost_text calls line = if nat_eq calls 0 then [] else codes ", the innermost in line " ++ decimal line

-- the calls that are open
abbrev pub calls_text : ℕ → ℕ → List ℕ
calls_text calls line = codes "calls open: " ++ decimal calls ++ innermost_text calls line ++ codes "\n"

-- what it means that a run stands
abbrev pub stand_meaning : List ℕ
stand_meaning = codes "the turns are spent when this comes next: either they are too few, or a loop or a recursion has no end"

-- the notes of a run whose turns are spent: the line that comes next, the names that are read there with what they stand for, the procedure, the calls
-- that are open, and what it means
abbrev pub stand_notes : List ℕ → Stood → List ℕ
stand_notes text s =
    (line_text s.line ++ shown_text (line_bytes text s.line)) ++ flat_map reading_text s.values ++ procedure_text s.procedure s.procedure_line
    ++ calls_text s.calls s.call_line ++ note_text stand_meaning
