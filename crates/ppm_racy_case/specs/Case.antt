-- The text of a case whose strands may race: the lines of arrays, and a listing with exchanges.
use Rattle.std.specs.Prelude.{◌≡◌, ℕ, List, map}
use Rattle.ppm_words.specs.declared.named_array.NamedArray.{NamedArray}
use Rattle.ppm_depth.specs.Start.{NamesArrays}
use Rattle.ppm_case.specs.Spelling.{array_of}
use Rattle.ppm_case.specs.Case.{Front}
use Rattle.ppm_racy.specs.declared.code.RacyParts.{RacyParts}
use Rattle.ppm_racy.specs.Code.{plain_code}
use Rattle.ppm_racy_listing.specs.Correct.{IsRacyListing}

-- a text is of a case: after the lines of arrays stands the listing of a code, whose root names none but these
pub record IsRacyCaseOf (text : List ℕ) (code : RacyParts) (input : List NamedArray) : Type 0 where
  pub front : Front text
  pub listed : IsRacyListing front.rest code
  pub arrays : input ≡ map array_of front.arrays
  pub named : NamesArrays (plain_code code) input
