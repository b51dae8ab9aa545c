-- The words of an input's arrays.
use Rattle.std.specs.Prelude.{ℕ, List, map}
use Rattle.std.specs.List.{flat_map}
use Rattle.ppm_words.specs.TwosComplement.{word_of}
use Rattle.ppm_words.specs.declared.named_array.NamedArray.{NamedArray}

-- the words of arrays, one array after the other
abbrev pub words_in : List NamedArray → List ℕ
words_in arrays = flat_map (λ a. map word_of a.values) arrays
