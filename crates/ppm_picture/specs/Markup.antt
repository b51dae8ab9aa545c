-- Parts of a text, and numbers whose digits stand in threes.
use Rattle.std.specs.Prelude.{ℕ, ◌%◌, ◌==◌, nat_lt, ◌&&◌, if◌then◌else◌, List, [], ◌∷◌, ◌++◌, length, decimal}
use Rattle.ppm_picture.specs.declared.markup.Markup.{Markup}
use Rattle.ppm_picture.specs.declared.markup.Markup.TheVariants.{Fixed, Number, Grouped}

-- a comma where the digits that follow can be cut into threes
abbrev pub comma_before : (rest : List ℕ) → List ℕ
comma_before rest = if nat_lt 0 (length rest) && (length rest % 3 == 0) then 44 ∷ [] else []

abbrev pub in_threes : (digits : List ℕ) → List ℕ
in_threes [] = []
in_threes (digit ∷ rest) = digit ∷ comma_before rest ++ in_threes rest

-- a number so
abbrev pub grouped : ℕ → List ℕ
grouped number = in_threes (decimal number)

-- a part
abbrev pub part_text : Markup → List ℕ
part_text (Fixed text) = text.now
part_text (Number number) = decimal number
part_text (Grouped number) = grouped number

-- parts, one after the other
abbrev pub appended : (text : List ℕ) → List Markup → List ℕ
appended text [] = text
appended text (part ∷ parts) = appended (text ++ part_text part) parts

abbrev pub markup_text : List Markup → List ℕ
markup_text [] = []
markup_text (part ∷ parts) = appended (part_text part) parts
