use Rattle.std.proofs.Common.{◌<◌, List, length, sym, subst}
use Rattle.ppm_words.specs.Inputs.{value_count}
use Rattle.ppm_words.specs.declared.named_array.NamedArray.{NamedArray}
use Rattle.ppm_commands.specs.Races.{TellsRace}
use Rattle.ppm_commands.proofs.TouchLemmas.{race_within}
use Rattle.ppm_commands.proofs.races.race_answer.Goals as goal

-- the word of a race is one of the arrays
pub race_told-requires-clause-there : goal.race_told-requires-clause-there
race_told-requires-clause-there c = subst (λ (xs : List NamedArray). c.args.race.word < value_count xs) (sym c.arrays.ensures.value)
    (race_within c.args.code.now c.args.input.now c.args.race c.requires.first.1)

-- the first race is told
pub returns-in-Ok : goal.returns-in-Ok
returns-in-Ok c = record {
  may = record { free = c.requires.free; tidy = c.requires.tidy };
  race = c.args.race;
  first = c.requires.first;
  tells = subst (λ (xs : List NamedArray). TellsRace c.args.code.now xs c.args.race c.in-Ok.told) c.arrays.ensures.value c.in-Ok.ensures;
}
