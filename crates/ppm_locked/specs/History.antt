-- The history of a lock: the turns that are made under it, in their order. It stands in proofs alone; memory has the number of its turns.
use Rattle.std.specs.Prelude.{◌≡◌, ℕ, true, List, [], ◌∷◌, ◌++◌, length}
use Rattle.logbook.specs.Pages.{Book, Cell, Named, Step, View}
use Rattle.ppm_step.specs.declared.turn.Turn.{Turn}

-- the first word is the number of turns. A book has two words, of which this one leaves the second at 0
abbrev pub IsKept : List Cell → (turns : List Turn) → Type 0
IsKept cells turns = cells ≡ (length turns, true) ∷ (0, true) ∷ []

-- the word of a book that is the number of turns
abbrev pub count_in : Book → Named
count_in book = record { tracked = true; key = 0; book = book }

-- where as many turns were found as were expected, these had been seen, and a turn is added to them
abbrev pub Adds : Step Turn → (before : View Turn ℕ) → (found : ℕ) → (now : View Turn ℕ) → Type 0
Adds step before found now = found ≡ step.old → (length before.0 ≡ step.old) × (now.0 ≡ before.0 ++ step.ask ∷ [])
