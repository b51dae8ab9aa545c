-- Places of a text: lines and columns, both from 1; columns count bytes.
use Rattle.std.specs.Prelude.{ℕ, zero, suc, ◌+◌, ◌-◌, ◌==◌, Bool, if◌then◌else◌, List, [], ◌∷◌, ◌++◌, length, take, map, codes, decimal}
use Rattle.std.specs.List.{filter}
use Rattle.ppm_pieces.specs.Pieces.{split}

-- the last of some lines; of none nothing
abbrev pub last_of : List (List ℕ) → List ℕ
last_of [] = []
last_of (l ∷ []) = l
last_of (l ∷ m ∷ ls) = last_of (m ∷ ls)

-- the line of the place: one more than the line feeds in front of it
abbrev pub line_of : List ℕ → ℕ → ℕ
line_of text place = length (filter (λ b. b == 10) (take place text)) + 1

-- its column: one more than the bytes of the last line of what stands in front of it
abbrev pub column_of : List ℕ → ℕ → ℕ
column_of text place = length (last_of (split 10 (take place text))) + 1

-- of some lines the one that has so many in front of it; nothing where there is none
abbrev pub line_behind : ℕ → List (List ℕ) → List ℕ
line_behind n [] = []
line_behind zero (l ∷ ls) = l
line_behind (suc n) (l ∷ ls) = line_behind n ls

-- the bytes of a line, without its line feed
abbrev pub line_bytes : List ℕ → ℕ → List ℕ
line_bytes text line = line_behind (line - 1) (split 10 text)

-- a line with a line and a column
abbrev pub place_text : ℕ → ℕ → List ℕ
place_text line column = codes "line " ++ decimal line ++ codes " column " ++ decimal column ++ codes "\n"

-- a line with a line alone
abbrev pub line_text : ℕ → List ℕ
line_text line = codes "line " ++ decimal line ++ codes "\n"

-- the bytes of a line, after two blanks
abbrev pub shown_text : List ℕ → List ℕ
shown_text bytes = codes "  " ++ bytes ++ codes "\n"

-- what stands under a byte in front of a mark: a tab under a tab, else a blank
abbrev pub under : ℕ → ℕ
under b = if b == 9 then 9 else 32

-- the mark under a column of a line
abbrev pub mark_text : List ℕ → ℕ → List ℕ
mark_text bytes column = codes "  " ++ map under (take (column - 1) bytes) ++ codes "^\n"

-- a column of a line, the line, and the mark under the column
abbrev pub marked_text : ℕ → List ℕ → ℕ → List ℕ
marked_text line bytes column = place_text line column ++ shown_text bytes ++ mark_text bytes column

-- a place of a text, its line and the mark under it
abbrev pub spot_text : List ℕ → ℕ → List ℕ
spot_text text place = marked_text (line_of text place) (line_bytes text (line_of text place)) (column_of text place)

-- how many lines a text has, where what stands after the last line feed is one
abbrev pub line_count : List ℕ → ℕ
line_count text = length (filter (λ b. b == 10) text) + 1

-- whether a line is the last one, after which no line feed stands
abbrev pub is_last_line : List ℕ → ℕ → Bool
is_last_line text line = line_count text == line
