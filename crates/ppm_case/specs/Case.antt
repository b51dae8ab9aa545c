-- The text of a case: the lines of arrays, and a listing.
use Rattle.std.specs.Prelude.{◌≡◌, ◌≤◌, ℕ, List, [], ◌++◌, length, map}
use Rattle.std.specs.List.{flat_map}
use Rattle.ppm_words.specs.declared.named_array.NamedArray.{NamedArray}
use Rattle.ppm_code.specs.declared.code.CodeParts.{CodeParts}
use Rattle.ppm_listing_reader.specs.Correct.{IsListing}
use Rattle.ppm_depth.specs.Start.{NamesArrays}
use Rattle.ppm_case.specs.Spelling.{Written, array_line, array_of}
use Rattle.ppm_case.specs.Rules.{case_limit, AllFollow}

-- a text that is not too long begins with lines of arrays that may stand there
pub record Front (text : List ℕ) : Type 0 where
  pub short : length text ≤ case_limit
  pub arrays : List Written
  pub follow : AllFollow [] arrays
  pub rest : List ℕ
  pub same : text ≡ flat_map array_line arrays ++ rest

-- a text is of a case: after the lines of arrays stands the listing of a code, whose root names none but these
pub record IsCaseOf (text : List ℕ) (code : CodeParts) (input : List NamedArray) : Type 0 where
  pub front : Front text
  pub listed : IsListing front.rest code
  pub arrays : input ≡ map array_of front.arrays
  pub named : NamesArrays code input
