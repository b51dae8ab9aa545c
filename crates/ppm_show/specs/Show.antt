-- The text of `show`: its head, and the lines of all addresses in their order.
use Rattle.std.specs.Prelude.{ℕ, List, ◌++◌, codes, decimal}
use Rattle.std.specs.List.{flat_map, range_with_len}
use Rattle.ppm_cells.specs.Cells.{word_count}
use Rattle.ppm_cells.specs.declared.shape.Shape.{Shape}
use Rattle.ppm_lines.specs.Scene.{Scene}
use Rattle.ppm_show.specs.Lines.{line_at, named_value}

-- a size with its name
abbrev pub size_text : (name : List ℕ) (size : ℕ) → List ℕ
size_text name size = name ++ decimal size

-- the form's version, and the machine's sizes
abbrev pub sizes_text : Shape → List ℕ
sizes_text s =
    codes "ppm show 1\n" ++ size_text (codes "processors ") s.processors ++ size_text (codes " room ") s.room ++ size_text (codes " slots ") s.slots
    ++ codes "\n"

-- the names of the fields
abbrev pub fields_text : List ℕ
fields_text = named_value (codes "word") (codes "value") ++ codes "of\n"

abbrev pub show_text : Scene → List ℕ
show_text scene = sizes_text scene.shape ++ fields_text ++ flat_map (line_at scene) (range_with_len 0 (word_count scene.shape))
