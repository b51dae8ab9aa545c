-- The arrays that a run starts from, and their limits.
use Rattle.std.specs.Prelude.{ℕ, ◌≤◌, List, length, map}
use Rattle.std.specs.List.{sum}
use Rattle.ppm_words.specs.Limits.{array_limit, word_limit}
use Rattle.ppm_words.specs.declared.named_array.NamedArray.{NamedArray}

-- how many values the arrays have in all
abbrev pub value_count : List NamedArray → ℕ
value_count arrays = sum (map (λ a. length a.values) arrays)

-- no more arrays than a program may have, and no more values in all than the words of its arrays
pub record IsInput (arrays : List NamedArray) : Type 0 where
  pub arrays_bound : length arrays ≤ array_limit
  pub values_bound : value_count arrays ≤ word_limit
