-- Where the finish word says an outcome, the depth-first run of the root ends so, with the words of the
-- arrays as they are.
use Rattle.std.specs.Prelude.{◌≡◌, ◌<◌, ℕ, Some}
use Rattle.ppm_strands.specs.Tree.{Words, Tree}
use Rattle.ppm_strands.specs.Run.{End, Ends}
use Rattle.ppm_cells.specs.Finish.{finish_of, IsOutcome}
use Rattle.ppm_cells.specs.Memory.{read}
use Rattle.ppm_cells.specs.declared.cell.Cell.TheVariants.{FinishWord, ArrayWord}
use Rattle.ppm_cells.specs.declared.finish.Finish.{Finish}
use Rattle.ppm_cells.specs.declared.finish.Finish.TheVariants.{Ended, Trapped as TrappedBy}
use Rattle.ppm_strands.specs.Strand.{Frame}
use Rattle.ppm_code.specs.Strands.{Point, Result, Gave, Trapped}
use Rattle.ppm_code.specs.declared.location.FrameWord.{FrameWord}
use Rattle.ppm_step.specs.State.{State as Machine}
use Rattle.ppm_frames.specs.Skeletons.{Over, InPlace, Skeleton, Leaf}
use Rattle.ppm_kept.specs.Running.{strands}
use Rattle.ppm_kept.specs.Kept.{Setting, IsKept}
use Rattle.ppm_kept.specs.Places.{places_of}

-- the finish of a root that comes to this
abbrev pub finish_by : Result → Finish
finish_by (Gave value) = Ended
finish_by (Trapped trap line) = TrappedBy trap line

-- the root's run comes to an end that this finish says; the words of the arrays are those of that end,
-- also after a trap; and no strand is left but the root's, which is over
pub record AnswersSo (i : Setting) (root : Tree (Frame FrameWord Point) Result) (input : Words) (state : Machine) (t : Skeleton) (finish : Finish) : Type 0 where
  pub end : End Result
  pub ends : Ends (strands i.shape i.code) root input end
  pub outcome : finish ≡ finish_by end.outcome
  pub arrays : (x : ℕ) → x < i.shape.arrays → read i.shape state.words (ArrayWord x) ≡ end.words x
  pub place : ℕ
  pub frame : ℕ
  pub slots : ℕ
  pub alone : t ≡ Leaf (InPlace place) Over frame slots

-- of a machine whose state by places is kept
abbrev pub EndsAsMeant : Type 0
EndsAsMeant = (i : Setting) (root : Tree (Frame FrameWord Point) Result) (input : Words)
    (state : Machine) (t : Skeleton) → IsKept i root input (places_of i.shape state) t
    → (finish : Finish) → finish_of (read i.shape state.words FinishWord) ≡ Some finish
    → IsOutcome finish → AnswersSo i root input state t finish
