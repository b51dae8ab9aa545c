-- What holds of each saved state.
use Rattle.std.specs.Prelude.{◌≡◌, ◌<◌, ℕ, List, length}
use Rattle.std.specs.List.{All, sum}
use Rattle.ppm_cells.specs.Memory.{AreWordsOf}
use Rattle.ppm_cells.specs.declared.shape.Shape.{Shape}
use Rattle.ppm_code.specs.declared.code.CodeParts.{CodeParts}
use Rattle.ppm_saved.specs.Names.{lengths_of}
use Rattle.ppm_saved.specs.declared.names.NamedLength.{NamedLength}

-- a state is whole: it has all words of its shape, among them those of its arrays, and the root of its code names arrays that are there
pub record IsWhole (s : Shape) (arrays : List NamedLength) (lengths : List ℕ) (code : CodeParts) (words : List ℕ) : Type 0 where
  pub words_are : AreWordsOf s words
  pub lengths_are : lengths ≡ lengths_of arrays
  pub arrays_are : sum lengths ≡ s.arrays
  pub named : All (λ number. number < length arrays) code.arrays
