-- Sound codes: those of which any order of the strands comes to the depth-first end.
use Rattle.std.specs.Prelude.{List}
use Rattle.ppm_strands.specs.Tree.{Words, Over}
use Rattle.ppm_strands.specs.Run.{Counts}
use Rattle.ppm_strands.specs.Ahead.{Steps}
use Rattle.ppm_strands.specs.Calm.{Calm}
use Rattle.ppm_words.specs.declared.named_array.NamedArray.{NamedArray}
use Rattle.ppm_code.specs.declared.code.CodeParts.{CodeParts}
use Rattle.ppm_code.specs.Free.{IsFree}
use Rattle.ppm_code.specs.Strands.{Result}
use Rattle.ppm_code.specs.Tidy.{IsTidy}
use Rattle.ppm_code.specs.Inputs.{words_in}
use Rattle.ppm_depth.specs.Start.{words_of, root_strand}
use Rattle.ppm_depth.specs.Run.{strands_of, ComesTo}

-- a code and an input are sound: the code is tidy, no capsule has a conflict on a path, and of two branches of a fork, each strand of
-- them begun from the words at its own fork, neither writes an array word that the other reads or writes
pub record IsSound (code : CodeParts) (input : List NamedArray) : Type 0 where
  pub tidy : IsTidy code
  pub free : IsFree code
  pub calm : Calm (strands_of code input) (root_strand code input) (words_of (words_in input))

-- in whatever order the strands of a sound code make their steps and come to an end, the depth-first run comes to it, with its counts
abbrev pub OrdersComeToOneEnd : Type 0
OrdersComeToOneEnd = (code : CodeParts) (input : List NamedArray) (k : Counts) (o : Result) (words : Words) → IsSound code input
    → Steps (strands_of code input) k (root_strand code input) (words_of (words_in input)) (Over o) words
    → ComesTo code input (record { outcome = o; words = words; counts = k })
