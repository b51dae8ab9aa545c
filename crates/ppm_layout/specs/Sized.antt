-- What holds of all words that are given to a machine.
use Rattle.std.specs.Prelude.{◌≡◌, ℕ, ◌<◌, List}
use Rattle.std.specs.List.{sum}
use Rattle.ppm_cells.specs.Memory.{AreWordsOf}
use Rattle.ppm_cells.specs.declared.shape.Shape.{Shape}

-- as many words as the shape has, as many of them in arrays as the arrays have, and a keeper among the processors
pub record IsSized (s : Shape) (keeper : ℕ) (lengths words : List ℕ) : Type 0 where
  pub words_are : AreWordsOf s words
  pub arrays_are : sum lengths ≡ s.arrays
  pub keeper_below : keeper < s.processors
