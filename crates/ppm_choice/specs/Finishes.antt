-- How a run ends whose processors obey: what its finish word says, and where that comes from.
use Rattle.std.specs.Prelude.{◌≡◌, ◌≢◌, ℕ, ◌<◌, List, Some}
use Rattle.ppm_cells.specs.Finish.{finish_of}
use Rattle.ppm_cells.specs.Memory.{read}
use Rattle.ppm_cells.specs.declared.cell.Cell.TheVariants.{FinishWord}
use Rattle.ppm_cells.specs.declared.finish.Finish.TheVariants.{OutOfTurns, OutOfRoom}
use Rattle.ppm_cells.specs.declared.shape.Shape.{Shape}
use Rattle.ppm_code.specs.declared.code.CodeParts.{CodeParts}
use Rattle.ppm_step.specs.declared.turn.Turn.{Turn}
use Rattle.ppm_step.specs.State.{State}
use Rattle.ppm_step.specs.Laws.{IsProposedWord, IsFilledBehind}
use Rattle.ppm_choice.specs.declared.limits.Limits.{Limits}
use Rattle.ppm_choice.specs.Deeds.{work_made}

module _ (s : Shape) (code : CodeParts) where
  -- one of the turns found the pool of a place full, in a capsule and a frame that are known, where the finish word says that it is
  abbrev pub FilledIfSaid : (start : State) → List Turn → (word : ℕ) → Type 0
  FilledIfSaid start turns word = (place : ℕ) → finish_of word ≡ Some (OutOfRoom place) → IsFilledBehind s code place start.words turns

  -- how the finish word came to be what it is after these turns
  pub data Finishes (limits : Limits) (start : State) (turns : List Turn) (word : ℕ) : Type 0 where
    -- a step proposed it: that the root ended or trapped, that a pool is full, or that words are broken
    Proposed : IsProposedWord s.processors word → FilledIfSaid start turns word → Finishes limits start turns word
    -- a processor quit, which has made exactly as many work turns as it may make
    Spent : (processor : ℕ) → processor < s.processors → finish_of word ≡ Some (OutOfTurns processor)
        → work_made s code processor start turns ≡ limits.turns → Finishes limits start turns word
    -- it stood there before the run
    Stood : word ≡ read s start.words FinishWord → word ≢ 0 → Finishes limits start turns word
