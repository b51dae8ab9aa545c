-- What words say after a run: their arrays or a trap, or why there are none.
use Rattle.std.specs.Prelude.{◌≡◌, ℕ, ◌+◌, List, [], ◌∷◌, map, take, drop, get_or}
use Rattle.std.specs.List.{sum}
use Rattle.ppm_words.specs.TwosComplement.{value_of}
use Rattle.ppm_words.specs.declared.named_array.NamedArray.{NamedArray}
use Rattle.ppm_words.specs.declared.trap.Trap.{Trap}
use Rattle.ppm_cells.specs.Cells.{arrays_at}
use Rattle.ppm_cells.specs.Memory.{read}
use Rattle.ppm_cells.specs.declared.cell.Cell.TheVariants.{FinishWord}
use Rattle.ppm_cells.specs.declared.finish.Finish.{Finish}
use Rattle.ppm_cells.specs.declared.finish.Finish.TheVariants as finishes
use Rattle.ppm_cells.specs.declared.shape.Shape.{Shape}
use Rattle.ppm_cells.specs.declared.ending.Ending.{Ending}
use Rattle.ppm_cells.specs.declared.ending.Ending.TheVariants.{NotYet, With, Unknown}
use Rattle.ppm_cells.specs.Ending.{ending_of}
use Rattle.ppm_answers.specs.declared.answer.Answer.{Answer}
use Rattle.ppm_answers.specs.declared.answer.Answer.TheVariants as answers

-- an answer is the one that is said, if any is
abbrev pub IsTheOne : (IsSaid : Answer → Type 0) → Answer → Type 0
IsTheOne IsSaid answer = (said : Answer) → IsSaid said → answer ≡ said

-- Words are read off by the sizes of the machine that they are of, and the lengths of its arrays: so those of a machine, of a table that
-- was closed, or of a saved text.
module _ (s : Shape) (lengths words : List ℕ) where
  -- the words of an array: the arrays lie one after the other
  abbrev pub array_words : (number : ℕ) → List ℕ
  array_words number = take (get_or lengths number 0) (drop (arrays_at s + sum (take number lengths)) words)

  -- arrays of these names with the values that the words have for them, which go by number
  abbrev pub arrays_from : (number : ℕ) → List NamedArray → List NamedArray
  arrays_from number [] = []
  arrays_from number (a ∷ arrays) =
      record { name = a.name; values = map value_of (array_words number) } ∷ arrays_from (number + 1) arrays

  -- A command tells the arrays with which a run ended, a trap that it met, that a processor has made its turns, and that the run has not
  -- ended, each in its own way, or not at all.
  module _ (ended : List NamedArray → Answer) (trapped : Trap → ℕ → Answer) (spent : ℕ → Answer → Type 0) (not_ended : Answer → Type 0)
      (arrays : List NamedArray) where
    -- the answer that a finish is, with these arrays; there is none that a run was stopped, or has no finish
    abbrev pub IsOfFinish : Finish → Answer → Type 0
    IsOfFinish finishes.Ended answer = answer ≡ ended (arrays_from 0 arrays)
    IsOfFinish (finishes.Trapped trap line) answer = answer ≡ trapped trap line
    IsOfFinish (finishes.OutOfRoom place) answer = answer ≡ answers.OutOfRoom place
    IsOfFinish (finishes.Broken place) answer = answer ≡ answers.Broken place
    IsOfFinish (finishes.OutOfTurns processor) answer = spent processor answer
    IsOfFinish finishes.Stopped answer = ⊥
    IsOfFinish finishes.Unset answer = ⊥

    -- that of what the finish word says; there is none of a word that stands for no finish
    abbrev pub IsOfEnding : Ending → Answer → Type 0
    IsOfEnding NotYet answer = not_ended answer
    IsOfEnding (With finish) answer = IsOfFinish finish answer
    IsOfEnding Unknown answer = ⊥

    -- that of these words
    abbrev pub IsOfWords : Answer → Type 0
    IsOfWords answer = IsOfEnding (ending_of (read s words FinishWord)) answer
