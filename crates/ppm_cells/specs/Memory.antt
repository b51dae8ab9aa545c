-- Cells are read and written in a list of words.
use Rattle.std.specs.Prelude.{◌≡◌, ◌≢◌, ℕ, Option, Some, List, length, slice_index, slice_set}
use Rattle.ppm_cells.specs.declared.shape.Shape.{Shape}
use Rattle.ppm_cells.specs.declared.cell.Cell.{Cell}
use Rattle.ppm_cells.specs.Cells.{word_count, address, IsCell, IsAddressable}

-- the word in a cell
abbrev pub read : Shape → List ℕ → Cell → ℕ
read s words c = slice_index words (address s c)

-- the words with another word in a cell
abbrev pub write : Shape → List ℕ → Cell → ℕ → List ℕ
write s words c word = slice_set words (address s c) word

-- as many words as the shape has
abbrev pub AreWordsOf : Shape → List ℕ → Type 0
AreWordsOf s words = length words ≡ word_count s

-- a cell has the word that was stored last
abbrev pub StoresAreRead : Shape → Type 0
StoresAreRead s = (words : List ℕ) (c : Cell) (word : ℕ) → AreWordsOf s words → IsAddressable s c → read s (write s words c word) c ≡ word

-- and the other cells have theirs
abbrev pub OthersStay : Shape → Type 0
OthersStay s = (words : List ℕ) (c d : Cell) (word : ℕ)
    → IsCell s c → IsCell s d → d ≢ c → read s (write s words c word) d ≡ read s words d

-- a value that is packed and stored is what its cell stands for
abbrev pub PackedStoresAreSeen : {V : Type 0} → (V → ℕ) → (V → Type 0) → (ℕ → Option V) → Shape → Type 0
PackedStoresAreSeen pack IsPackable unpack s = (words : List ℕ) (c : Cell) (v : _)
    → AreWordsOf s words → IsAddressable s c → IsPackable v → unpack (read s (write s words c (pack v)) c) ≡ Some v
