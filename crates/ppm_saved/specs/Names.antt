-- The arrays of a saved state, without their values.
use Rattle.std.specs.Prelude.{◌≡◌, ℕ, ◌≤◌, List, None, length, map}
use Rattle.std.specs.List.{All, IsDistinct, sum}
use Rattle.std.specs.Str.{bytes_eq}
use Rattle.ppm_words.specs.Limits.{array_limit, word_limit}
use Rattle.ppm_words.specs.Names.{IsName}
use Rattle.ppm_text.specs.Spelling.{keyword_of}
use Rattle.ppm_saved.specs.declared.names.NamedLength.{NamedLength}

-- how many words each of some arrays has
abbrev pub lengths_of : List NamedLength → List ℕ
lengths_of arrays = map (λ a. a.len) arrays

-- what an array is called: by a name of the language that is no keyword
pub record IsArrayName (name : List ℕ) : Type 0 where
  pub form : IsName name
  pub plain : keyword_of name ≡ None

-- no more arrays than a program may have, each with a name of its own, and no more words in all
pub record AreNames (arrays : List NamedLength) : Type 0 where
  pub most : length arrays ≤ array_limit
  pub names : All (λ a. IsArrayName a.name) arrays
  pub differ : IsDistinct bytes_eq (map (λ a. a.name) arrays)
  pub words_most : sum (lengths_of arrays) ≤ word_limit
