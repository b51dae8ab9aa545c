-- Where runs end: at an outcome of the root, as the depth-first run ends and with each branch taken
-- once; or stopped, and then they stay so.
use Rattle.std.specs.Prelude.{◌≡◌, ◌≤◌, ℕ, ◌+◌, List, Some}
use Rattle.ppm_strands.specs.Tree.{Words, Tree}
use Rattle.ppm_cells.specs.Finish.{finish_of, IsOutcome}
use Rattle.ppm_cells.specs.Memory.{read}
use Rattle.ppm_cells.specs.declared.cell.Cell.TheVariants.{FinishWord}
use Rattle.ppm_cells.specs.declared.finish.Finish.{Finish}
use Rattle.ppm_cells.specs.declared.shape.Shape.{Shape}
use Rattle.ppm_strands.specs.Strand.{Frame}
use Rattle.ppm_code.specs.Sizes.{frame_size}
use Rattle.ppm_code.specs.Strands.{Point, Result}
use Rattle.ppm_code.specs.declared.code.CodeParts.{CodeParts}
use Rattle.ppm_code.specs.declared.location.FrameWord.{FrameWord}
use Rattle.ppm_step.specs.State.{State as RunState}
use Rattle.ppm_tickets.specs.Homes.{Home, Once}
use Rattle.ppm_tickets.specs.Words.{has}
use Rattle.ppm_frames.specs.Views.{view}
use Rattle.ppm_frames.specs.Skeletons.{Skeleton}
use Rattle.ppm_kept.specs.Answers.{AnswersSo}
use Rattle.ppm_kept.specs.Kept.{start, ceiling}
use Rattle.ppm_kept.specs.Places.{kinds_of}
use Rattle.ppm_runs.specs.Run.{setting, IsRun}
use Rattle.ppm_runs.specs.Shown.{Shows}

-- The depth-first run of the root ends so, with the words of the arrays as they are; the tree that the words show is
-- one leaf, the root's strand, which is over; each right branch that was forked was taken, and none was forked or taken
-- twice; and no place has given out more of its pool than that run takes of all.
pub record EndsWell (s : Shape) (code : CodeParts) (root : Tree (Frame FrameWord Point) Result) (input : Words) (state : RunState) (forked taken : List ℕ) (t : Skeleton) (finish : Finish) : Type 0 where
  pub answer : AnswersSo (setting s code) root input state t finish
  pub shown : Shows s code state.words t
  pub all : (r : ℕ) → has forked r ≡ has taken r
  pub forked_once : Once forked
  pub taken_once : Once taken
  pub room : (p : ℕ) → ceiling (setting s code) (view s state.words) p (kinds_of s state.words p)
      ≤ start (setting s code) p + (frame_size code code.root + answer.end.counts.block_words)

-- in each state of a run an outcome in the finish word is that of the root's depth-first run
abbrev pub RunsEnd : Type 0
RunsEnd = (s : Shape) (code : CodeParts)
    (root : Tree (Frame FrameWord Point) Result) (input : Words) (state : RunState) (h : ℕ → Home) (forked taken : List ℕ) (t : Skeleton)
    → IsRun s code root input state h forked taken t
    → (finish : Finish) → finish_of (read s state.words FinishWord) ≡ Some finish → IsOutcome finish
    → EndsWell s code root input state forked taken t finish
