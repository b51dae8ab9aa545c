-- The text of a saved state: lines that say its sizes and arrays, the listing of its code, and its words in runs.
use Rattle.std.specs.Prelude.{ℕ, ◌==◌, if◌then◌else◌, List, [], ◌∷◌, ◌++◌, length, codes, decimal}
use Rattle.std.specs.List.{flat_map}
use Rattle.ppm_cells.specs.declared.shape.Shape.{Shape}
use Rattle.ppm_code.specs.declared.code.CodeParts.{CodeParts}
use Rattle.ppm_listing.specs.Listing.{listing_of}
use Rattle.ppm_saved.specs.Runs.{runs_of}
use Rattle.ppm_saved.specs.declared.names.NamedLength.{NamedLength}
use Rattle.ppm_saved.specs.declared.run.Run.{Run}

-- a number after a space
abbrev pub spaced : ℕ → List ℕ
spaced n = 32 ∷ decimal n

-- the rest of a line: its numbers, each after a space, and a line feed
abbrev pub numbers_text : List ℕ → List ℕ
numbers_text ns = flat_map spaced ns ++ 10 ∷ []

-- the first line, with the version of the form
abbrev pub version_line : List ℕ
version_line = codes "saved 1\n"

-- the line of the sizes: processors, room and slots
abbrev pub shape_line : (processors room slots : ℕ) → List ℕ
shape_line processors room slots = codes "shape" ++ numbers_text (processors ∷ room ∷ slots ∷ [])

-- the line of an array: its name, and how many words it has
abbrev pub array_line : NamedLength → List ℕ
array_line a = codes "array " ++ a.name ++ numbers_text (a.len ∷ [])

-- the line in front of a listing of so many bytes
abbrev pub code_line : ℕ → List ℕ
code_line n = codes "code" ++ numbers_text (n ∷ [])

-- the line in front of so many words
abbrev pub words_line : ℕ → List ℕ
words_line n = codes "words" ++ numbers_text (n ∷ [])

-- how often a word stands in a row, if it is not once
abbrev pub times_text : ℕ → List ℕ
times_text n = if n == 1 then [] else 42 ∷ decimal n

-- the line of a run
abbrev pub run_line : Run → List ℕ
run_line r = decimal r.word ++ times_text r.times ++ 10 ∷ []

-- the lines in front of the code
abbrev pub head_text : Shape → List NamedLength → List ℕ
head_text s arrays = version_line ++ shape_line s.processors s.room s.slots ++ flat_map array_line arrays

-- a listing after its line
abbrev pub code_text : (listing : List ℕ) → List ℕ
code_text listing = code_line (length listing) ++ listing

-- words after their line, in their longest runs
abbrev pub words_text : List ℕ → List ℕ
words_text ws = words_line (length ws) ++ flat_map run_line (runs_of ws)

-- the text of a state
abbrev pub saved_text : Shape → List NamedLength → CodeParts → (words : List ℕ) → List ℕ
saved_text s arrays code words = head_text s arrays ++ code_text (listing_of code) ++ words_text words
