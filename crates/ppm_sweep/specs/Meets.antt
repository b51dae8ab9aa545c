-- Whether a run came to an outcome.
use Rattle.std.specs.Prelude.{◌≡◌, ◌≤◌, ◌<◌, ◌^◌, ℕ, ◌+◌, List, [], ◌∷◌, length, map}
use Rattle.ppm_words.specs.TwosComplement.{value_of}
use Rattle.ppm_words.specs.declared.named_array.NamedArray.{NamedArray}
use Rattle.ppm_words.specs.declared.outcome.Outcome.{Outcome}
use Rattle.ppm_words.specs.declared.outcome.Outcome.TheVariants as outcome
use Rattle.ppm_cells.specs.Ending.{ending_of}
use Rattle.ppm_cells.specs.declared.ending.Ending.{Ending}
use Rattle.ppm_cells.specs.declared.ending.Ending.TheVariants.{NotYet, With, Unknown}
use Rattle.ppm_cells.specs.declared.finish.Finish.{Finish}
use Rattle.ppm_cells.specs.declared.finish.Finish.TheVariants as finishes
use Rattle.ppm_core.specs.Situation.{Situation, array_in, finish_in}

-- the arrays of a machine, from a number on, have the values of these
abbrev pub HasValues : Situation → (number : ℕ) → List NamedArray → Type 0
HasValues m number [] = Unit {0}
HasValues m number (a ∷ arrays) = (map value_of (array_in m number) ≡ a.values) × HasValues m (number + 1) arrays

-- a finish is the outcome: the run ended, and the arrays have these values; or it ended in this trap
abbrev pub MeetsFinish : Finish → Outcome → Situation → Type 0
MeetsFinish finishes.Ended (outcome.Ended arrays) m = HasValues m 0 arrays
MeetsFinish (finishes.Trapped trap line) (outcome.Trapped wanted at) m = (trap ≡ wanted) × (line ≡ at)
MeetsFinish finish o m = ⊥

-- this holds with what the finish word says
abbrev pub MeetsEnding : Ending → Outcome → Situation → Type 0
MeetsEnding NotYet o m = ⊥
MeetsEnding (With finish) o m = MeetsFinish finish o m
MeetsEnding Unknown o m = ⊥

-- the run of a machine has come to the outcome
abbrev pub Meets : Outcome → Situation → Type 0
Meets o m = MeetsEnding (ending_of (finish_in m)) o m

-- a machine has the arrays of an outcome, which are fewer than 2^32
abbrev pub HasArraysOf : Situation → Outcome → Type 0
HasArraysOf m (outcome.Ended arrays) = (length arrays ≤ length m.array_lengths) × (length arrays < 2 ^ 32)
HasArraysOf m (outcome.Trapped trap line) = Unit {0}
HasArraysOf m outcome.NotWithin = Unit {0}
