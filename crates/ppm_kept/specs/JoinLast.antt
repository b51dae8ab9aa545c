-- The row Join where its branch came last: a trap of one of the two goes up, or both values pass; and
-- the row whichever branch came first.
use Rattle.std.specs.Prelude.{◌≡◌, ◌<◌, ℕ, ◌+◌, ◌==◌, true, false}
use Rattle.ppm_strands.specs.Tree.{Words, Tree}
use Rattle.ppm_cells.specs.declared.cell.Cell.{Cell}
use Rattle.ppm_cells.specs.declared.cell.Cell.TheVariants.{BlockWord}
use Rattle.ppm_cells.specs.declared.restart.RestartKind.TheVariants.{Join}
use Rattle.ppm_cells.specs.declared.side.Side.{Side}
use Rattle.ppm_strands.specs.Strand.{Frame}
use Rattle.ppm_code.specs.Strands.{Point, Result}
use Rattle.ppm_code.specs.declared.location.FrameWord.{FrameWord}
use Rattle.ppm_step.specs.Rows.{is_inline}
use Rattle.ppm_step.specs.Standings.{IsLost}
use Rattle.ppm_step.specs.declared.content.Content.{Content}
use Rattle.ppm_step.specs.declared.row.Point.{Point as RowPoint}
use Rattle.ppm_step.specs.declared.row.Row.TheVariants.{Now, Store, Exchange}
use Rattle.ppm_step.specs.declared.row.Then.{Then}
use Rattle.ppm_step.specs.declared.row.Then.TheVariants.{Load}
use Rattle.ppm_frames.specs.Views.{is_cell}
use Rattle.ppm_frames.specs.Skeletons.{Skeleton}
use Rattle.ppm_kept.specs.Running.{IsFair}
use Rattle.ppm_kept.specs.Kept.{Setting, side_code, InRow, State, IsKept}
use Rattle.ppm_kept.specs.Moves.{goes, installs, begun, loaded, stored}
use Rattle.ppm_kept.specs.Laws.{Ends, kind_then}
use Rattle.ppm_kept.specs.Pushing.{kind_seat}
use Rattle.ppm_kept.specs.Joins.{by_join}

-- Each step of a place in a row of kind Join keeps all. The tree is the fork with both branches until
-- the install, whatever is stored before it: the value of the left branch, that of the right one, or
-- a trap in the outcome of the frame that waits. With the install that frame goes on, or is over.
pub record JoinKeeps (i : Setting) (root : Tree (Frame FrameWord Point) Result) (input : Words) (s : State) (t : Skeleton) (p r : ℕ) (d : Side) : Type 0 where
  pub begins : (own bottom : ℕ)
      → IsKept i root input (begun i s p (kind_seat own p (Join r d) bottom) (Join r d)) t
  pub loads : (own bottom victim : ℕ) (point : RowPoint) → s.doing p ≡ InRow (Now (Load point))
      → IsKept i root input
      (loaded i s p (kind_seat own p (Join r d) bottom) victim point) t
  pub stores : (own bottom found : ℕ) (cell : Cell) (content : Content) (next : Then)
      → s.doing p ≡ InRow (Store cell content next)
      → IsKept i root input (stored i s p (kind_seat own p (Join r d) bottom) found cell content next) t
  pub exchanges_none : (cell : Cell) (old new : Content) (next : Then)
      → s.doing p ≡ InRow (Exchange cell old new next) → ⊥
  pub installs : (next : Then) → s.doing p ≡ InRow (Now next) → Ends next
      → IsKept i root input (installs s p (kind_then next)) (by_join p next t)
  pub faults : IsKept i root input (goes s p IsLost) t
  -- and each store is into a cell that the frames have
  pub cells : (cell : Cell) (content : Content) (next : Then)
      → s.doing p ≡ InRow (Store cell content next) → is_cell i.shape cell ≡ true

-- in each row whose branch came last, and is not to run the right one: its two outcomes may be ends
-- or traps; where they are neither, words are broken
abbrev pub LastJoinRowKeeps : Type 0
LastJoinRowKeeps = (i : Setting) → IsFair i.code
    → (root : Tree (Frame FrameWord Point) Result) (input : Words) (s : State) (t : Skeleton)
    → IsKept i root input s t
    → (p : ℕ) → p < i.shape.processors → (r : ℕ) (d : Side) → s.kind p ≡ Join r d
    → (s.words (BlockWord (r + 1)) == side_code d) ≡ false
    → is_inline (s.words (BlockWord (r + 1))) d ≡ false
    → JoinKeeps i root input s t p r d

-- in every row of kind Join
abbrev pub JoinRowKeeps : Type 0
JoinRowKeeps = (i : Setting) → IsFair i.code
    → (root : Tree (Frame FrameWord Point) Result) (input : Words) (s : State) (t : Skeleton)
    → IsKept i root input s t
    → (p : ℕ) → p < i.shape.processors → (r : ℕ) (d : Side) → s.kind p ≡ Join r d
    → JoinKeeps i root input s t p r d
