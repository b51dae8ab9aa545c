-- The inputs with which a program's code may be run.
use Rattle.std.specs.Prelude.{◌≡◌, ◌<◌, ℤ, pos, negsuc, List, length, map}
use Rattle.std.specs.List.{All}
use Rattle.ppm_words.specs.Limits.{value_bound}
use Rattle.ppm_words.specs.declared.named_array.NamedArray.{NamedArray}
use Rattle.ppm_tree.specs.Tree.{ProgramTree}

-- a value of the language: from -2^63 to 2^63 - 1
abbrev pub IsValue : ℤ → Type 0
IsValue (pos n) = n < value_bound
IsValue (negsuc n) = n < value_bound

-- an input for the program's arrays: with their names, as long as they are, of values; not only the one that the text gives
pub record IsInputOf (t : ProgramTree) (input : List NamedArray) : Type 0 where
  pub names : map (λ a. a.name) input ≡ map (λ a. a.name.name) t.arrays
  pub lengths : map (λ a. length a.values) input ≡ map (λ a. a.words) t.arrays
  pub values : All (λ a. All IsValue a.values) input
