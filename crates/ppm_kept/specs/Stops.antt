-- Turns that stop a run, and words that come back: what is kept stays so.
use Rattle.std.specs.Prelude.{◌≡◌, ℕ}
use Rattle.ppm_strands.specs.Tree.{Words, Tree}
use Rattle.ppm_cells.specs.declared.cell.Cell.TheVariants.{FinishWord}
use Rattle.ppm_cells.specs.declared.shape.Takeover.TheVariants.{ByPlaces}
use Rattle.ppm_strands.specs.Strand.{Frame}
use Rattle.ppm_code.specs.Strands.{Point, Result}
use Rattle.ppm_code.specs.declared.location.FrameWord.{FrameWord}
use Rattle.ppm_step.specs.State.{State as Machine, stand_of, happens}
use Rattle.ppm_step.specs.declared.turn.Turn.{Turn}
use Rattle.ppm_frames.specs.Views.{written}
use Rattle.ppm_frames.specs.Skeletons.{Skeleton}
use Rattle.ppm_kept.specs.Running.{IsFair}
use Rattle.ppm_kept.specs.Kept.{Setting, Resting, State, NoOutcome, IsKept}
use Rattle.ppm_kept.specs.Places.{places_of}
use Rattle.ppm_kept.specs.Steps.{ActsSo, tree_after}

-- With takeover by places: as `TurnsKeep`, also where the turn stops the run, and after it
abbrev pub TurnsKeepOn : Type 0
TurnsKeepOn = (i : Setting) → IsFair i.code → i.shape.takeover ≡ ByPlaces
    → (root : Tree (Frame FrameWord Point) Result) (input : Words) (state : Machine) (t : Skeleton)
    → IsKept i root input (places_of i.shape state) t → (turn : Turn)
    → ActsSo i state t turn.processor turn.act (stand_of state turn.processor)
    → IsKept i root input (places_of i.shape (happens i.shape i.code state turn)) (tree_after i state turn t)

-- where no place is in a row, and the finish word is another one that says no outcome
abbrev pub WordsStay : Type 0
WordsStay = (i : Setting) → IsFair i.code
    → (root : Tree (Frame FrameWord Point) Result) (input : Words) (s : State) (t : Skeleton)
    → IsKept i root input s t → (word : ℕ) → NoOutcome word
    → IsKept i root input (record { words = written s.words FinishWord word; kind = s.kind; doing = λ p. Resting }) t
