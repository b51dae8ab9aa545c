-- The words of a table that no thread shares any more.
use Rattle.std.specs.Prelude.{ℕ, ◌+◌, List, take, drop, get_or}
use Rattle.std.specs.List.{sum}
use Rattle.ppm_cells.specs.Cells.{arrays_at}
use Rattle.ppm_cells.specs.declared.shape.Shape.{Shape}

-- the sizes, the lengths of the arrays, and the words by their addresses
pub record Closing : Type 0 where
  pub shape : Shape
  pub array_lengths : List ℕ
  pub words : List ℕ

-- the words of an array: the arrays lie one after the other
abbrev pub array_of : Closing → (number : ℕ) → List ℕ
array_of c number =
    take (get_or c.array_lengths number 0) (drop (arrays_at c.shape + sum (take number c.array_lengths)) c.words)
