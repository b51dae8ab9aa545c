-- The line of a turn.
use Rattle.std.specs.Prelude.{ℕ, ◌-◌, ◌==◌, if◌then◌else◌, List, [], ◌∷◌, ◌++◌, length, replicate, codes, decimal}
use Rattle.std.specs.List.{flat_map}
use Rattle.ppm_cells.specs.declared.shape.Shape.{Shape}
use Rattle.ppm_code.specs.declared.code.CodeParts.{CodeParts}
use Rattle.ppm_lines.specs.Marks.{marks_at}
use Rattle.ppm_lines.specs.MarkTexts.{mark_text}
use Rattle.ppm_naming.specs.declared.names.Names.{Names}
use Rattle.ppm_step.specs.Standings.{Standing, unknown_place}
use Rattle.ppm_step.specs.State.{State, stand_of}
use Rattle.ppm_step.specs.Told.{place_of}
use Rattle.ppm_step.specs.declared.turn.Turn.{Turn}
use Rattle.ppm_lines.specs.Doing.{doing_of, row_text, of_text}
use Rattle.ppm_lines.specs.Parts.{coming, part_of}
use Rattle.ppm_lines.specs.Scene.{Scene}
use Rattle.ppm_lines.specs.Texts.{part_text, part_kind, stores_link, before, step_text, worth_text}

-- a field: its text, blanks up to its width, and one more
abbrev pub field : (width : ℕ) → List ℕ → List ℕ
field width text = text ++ replicate (width - length text) 32 ++ 32 ∷ []

-- the place that a processor carries; `-` where it doesn't know it
abbrev pub carried_text : (place : ℕ) → List ℕ
carried_text place = if place == unknown_place then codes "-" else decimal place

-- how many turns came before, the processor, and the place that it carries
abbrev pub who_fields : (number processor place : ℕ) → List ℕ
who_fields number processor place = field 6 (decimal number) ++ field 3 (112 ∷ decimal processor) ++ field 2 (carried_text place)

module _ (scene : Scene) (turn : Turn) (standing : Standing) where
  -- where the processor stands: its row, and what that is of
  abbrev pub row_fields : List ℕ
  row_fields = field 6 (row_text (doing_of standing)) ++ field 16 (of_text scene (doing_of standing))

  -- what it does, with which word, and the values of that word
  abbrev pub step_fields : List ℕ
  step_fields =
      let want = coming scene turn standing in
      let part = part_of scene turn standing in
      let found = before scene want in
      field 5 (step_text found turn.act want) ++ field 18 (part_text scene part)
      ++ worth_text (part_kind (stores_link standing) part) found turn.act want

  -- its marks
  abbrev pub marks : List ℕ
  marks = flat_map mark_text (marks_at scene.shape scene.code scene.words turn.act standing)

  -- the line: who acts, where it stands, and what it does there
  abbrev pub line_at : (number : ℕ) → List ℕ
  line_at number = who_fields number turn.processor (place_of standing) ++ row_fields ++ step_fields ++ marks ++ 10 ∷ []

-- what the lines of a run are told from, at a state of it
abbrev pub scene_of : Names → (lengths : List ℕ) → Shape → CodeParts → State → Scene
scene_of names lengths s code state = record { names = names; lengths = lengths; shape = s; code = code; words = state.words }

-- the line of a turn, before which there were so many
abbrev pub line_text : Names → (lengths : List ℕ) → Shape → CodeParts → (number : ℕ) → State → Turn → List ℕ
line_text names lengths s code number state turn =
    line_at (scene_of names lengths s code state) turn (stand_of state turn.processor) number
