-- The word of a race is one of the arrays.
use Rattle.std.proofs.Common.{◌<◌, List, length, arith}
use Rattle.ppm_words.specs.declared.named_array.NamedArray.{NamedArray}
use Rattle.ppm_words.specs.Inputs.{value_count}
use Rattle.ppm_code.specs.declared.code.CodeParts.{CodeParts}
use Rattle.ppm_depth.proofs.EndLemmas.{counts_words, length_words}
use Rattle.ppm_races.specs.declared.race.Race.{Race}
use Rattle.ppm_races.specs.Verdicts.{IsRaceWith}

-- there are as many array words as values
pub race_within : (code : CodeParts) (input : List NamedArray) (race : Race) → IsRaceWith code input race → race.word < value_count input
race_within code input race r = omega (arith, r.there, counts_words input, length_words input)
