-- The row Join where its branch came first, and where one strand runs both branches.
use Rattle.std.specs.Prelude.{◌≡◌, ◌⊎◌, ◌<◌, ℕ, ◌+◌, ◌==◌, true}
use Rattle.ppm_strands.specs.Tree.{Words, Tree}
use Rattle.ppm_cells.specs.declared.cell.Cell.{Cell}
use Rattle.ppm_cells.specs.declared.cell.Cell.TheVariants.{BlockWord}
use Rattle.ppm_cells.specs.declared.restart.RestartKind.{RestartKind}
use Rattle.ppm_cells.specs.declared.restart.RestartKind.TheVariants.{Run, Unwind, Join}
use Rattle.ppm_cells.specs.declared.side.Side.{Side}
use Rattle.ppm_strands.specs.Strand.{Frame}
use Rattle.ppm_code.specs.Strands.{Point, Result}
use Rattle.ppm_code.specs.declared.location.FrameWord.{FrameWord}
use Rattle.ppm_step.specs.Rows.{is_inline}
use Rattle.ppm_step.specs.Standings.{IsLost}
use Rattle.ppm_step.specs.declared.content.Content.{Content}
use Rattle.ppm_step.specs.declared.row.Point.{Point as RowPoint}
use Rattle.ppm_step.specs.declared.row.Row.TheVariants.{Now, Store, Exchange}
use Rattle.ppm_step.specs.declared.row.Then.{Then}
use Rattle.ppm_step.specs.declared.row.Then.TheVariants.{Load, Install, Begin}
use Rattle.ppm_frames.specs.Skeletons.{Begins, Over, Skeleton, joined, over_left, inlined}
use Rattle.ppm_kept.specs.Running.{IsFair}
use Rattle.ppm_kept.specs.Kept.{Setting, side_code, InRow, State, IsKept}
use Rattle.ppm_kept.specs.Moves.{goes, installs, begun, loaded}
use Rattle.ppm_kept.specs.Laws.{Ends, kind_then}
use Rattle.ppm_kept.specs.Pushing.{kind_seat}

-- what the install at the end of Join makes of the skeleton: the strand goes on with the right
-- branch, the frame that waited goes on or is over, or nothing
abbrev pub joined_by : ℕ → RestartKind → Skeleton → Skeleton
joined_by p (Run g y) t = joined p (λ z. Begins z) t
joined_by p (Unwind g) t = joined p (λ z. Over) t
joined_by p _ t = t

-- the right branch that was held is the place's, or the install says it
abbrev pub by_join : ℕ → Then → Skeleton → Skeleton
by_join p (Begin r f b) t = over_left p (inlined p) t
by_join p (Install restart) t = joined_by p restart.kind t
by_join p _ t = t

-- the branch came first, or its strand runs the right branch next
abbrev pub IsEarly : (Cell → ℕ) → ℕ → Side → Type 0
IsEarly m r d = ((m (BlockWord (r + 1)) == side_code d) ≡ true)
    ⊎ (is_inline (m (BlockWord (r + 1))) d ≡ true)

-- Each step of a place in such a row of kind Join keeps all, and it stores nothing
pub record EarlyJoinKeeps (i : Setting) (root : Tree (Frame FrameWord Point) Result) (input : Words) (s : State) (t : Skeleton) (p r : ℕ) (d : Side) : Type 0 where
  pub begins : (own bottom : ℕ)
      → IsKept i root input (begun i s p (kind_seat own p (Join r d) bottom) (Join r d)) t
  pub loads : (own bottom victim : ℕ) (point : RowPoint) → s.doing p ≡ InRow (Now (Load point))
      → IsKept i root input
      (loaded i s p (kind_seat own p (Join r d) bottom) victim point) t
  pub stores_none : (cell : Cell) (content : Content) (next : Then)
      → s.doing p ≡ InRow (Store cell content next) → ⊥
  pub exchanges_none : (cell : Cell) (old new : Content) (next : Then)
      → s.doing p ≡ InRow (Exchange cell old new next) → ⊥
  pub installs : (next : Then) → s.doing p ≡ InRow (Now next) → Ends next
      → IsKept i root input (installs s p (kind_then next)) (by_join p next t)
  pub faults : IsKept i root input (goes s p IsLost) t

-- in each such row, which stores nothing
abbrev pub EarlyJoinRowKeeps : Type 0
EarlyJoinRowKeeps = (i : Setting) → IsFair i.code
    → (root : Tree (Frame FrameWord Point) Result) (input : Words) (s : State) (t : Skeleton)
    → IsKept i root input s t
    → (p : ℕ) → p < i.shape.processors → (r : ℕ) (d : Side) → s.kind p ≡ Join r d
    → IsEarly s.words r d → EarlyJoinKeeps i root input s t p r d
