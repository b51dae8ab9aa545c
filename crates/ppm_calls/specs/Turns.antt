-- The machine of a code whose processors step in turn.
use Rattle.std.specs.Prelude.{◌≡◌, ◌<◌, ◌≤◌, ℕ, ◌+◌, ◌%◌, List, map}
use Rattle.std.specs.List.{range_with_len}
use Rattle.ppm_words.specs.declared.named_array.NamedArray.{NamedArray}
use Rattle.ppm_cells.specs.declared.shape.Shape.{Shape}
use Rattle.ppm_code.specs.declared.code.CodeParts.{CodeParts}
use Rattle.ppm_layout.specs.declared.images.Image.{Image}
use Rattle.ppm_layout.specs.Image.{IsImageOf}
use Rattle.ppm_step.specs.declared.turn.Act.TheVariants.{Step}
use Rattle.ppm_step.specs.declared.turn.Turn.{Turn}
use Rattle.ppm_core.specs.Situation.{Situation, finish_in, loaded, run_on}

-- the step with a number, from 0: that of the processor in turn, with the one after it as victim
abbrev pub step_in_turn : (processors number : ℕ) → Turn
step_in_turn processors number = record { processor = number % processors; act = Step ((number + 1) % processors) }

-- the first so many of these
abbrev pub steps_in_turn : (processors count : ℕ) → List Turn
steps_in_turn processors count = map (step_in_turn processors) (range_with_len 0 count)

-- A machine that began with the image of a code and its input, with processor 0 as keeper, after so many such steps. Before each of them the finish
-- word was 0; where it is still 0, they are as many as there may be.
pub record HasTakenTurns (code : CodeParts) (input : List NamedArray) (s : Shape) (most : ℕ) (m : Situation) : Type 0 where
  pub image : Image
  pub opens : IsImageOf code input s 0 image
  pub count : ℕ
  pub made : m ≡ run_on (loaded s code image.lengths image.words) (steps_in_turn s.processors count)
  pub going : (k : ℕ) → k < count → finish_in (run_on (loaded s code image.lengths image.words) (steps_in_turn s.processors k)) ≡ 0
  pub within : count ≤ most
  pub all : finish_in m ≡ 0 → count ≡ most
