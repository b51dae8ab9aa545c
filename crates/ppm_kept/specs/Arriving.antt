-- The row Arrive: one exchange of the order word tells which branch came first.
use Rattle.std.specs.Prelude.{◌≡◌, ◌<◌, ℕ, ◌+◌, ◌==◌, cond, true}
use Rattle.ppm_strands.specs.Tree.{Words, Tree}
use Rattle.ppm_cells.specs.declared.cell.Cell.{Cell}
use Rattle.ppm_cells.specs.declared.cell.Cell.TheVariants.{BlockWord}
use Rattle.ppm_cells.specs.declared.restart.RestartKind.TheVariants.{Arrive}
use Rattle.ppm_cells.specs.declared.side.Side.{Side}
use Rattle.ppm_strands.specs.Strand.{Frame}
use Rattle.ppm_code.specs.Strands.{Point, Result}
use Rattle.ppm_code.specs.declared.location.FrameWord.{FrameWord}
use Rattle.ppm_step.specs.Standings.{IsLost}
use Rattle.ppm_step.specs.declared.content.Content.{Content}
use Rattle.ppm_step.specs.declared.row.Row.TheVariants.{Now, Store, Exchange}
use Rattle.ppm_step.specs.declared.row.Then.{Then}
use Rattle.ppm_frames.specs.Views.{is_cell}
use Rattle.ppm_frames.specs.Skeletons.{Came, Skeleton, Leaf, grow}
use Rattle.ppm_kept.specs.Running.{IsFair}
use Rattle.ppm_kept.specs.Kept.{Setting, InRow, State, IsKept}
use Rattle.ppm_kept.specs.Moves.{goes, installs, begun, exchanged}
use Rattle.ppm_kept.specs.Laws.{Ends, kind_then}
use Rattle.ppm_kept.specs.Pushing.{kind_seat}

-- the branch of a place came first, if nothing stood in its order word
abbrev pub by_arrive : (Cell → ℕ) → (p r : ℕ) → Skeleton → Skeleton
by_arrive m p r t = cond (m (BlockWord (r + 1)) == 0) (grow p (λ st f n. Leaf Came st f n) t) t

-- Every step of a place in a row of kind Arrive keeps all
pub record ArriveKeeps (i : Setting) (root : Tree (Frame FrameWord Point) Result) (input : Words) (s : State) (t : Skeleton) (p r : ℕ) (d : Side) : Type 0 where
  pub begins : (own bottom : ℕ)
      → IsKept i root input (begun i s p (kind_seat own p (Arrive r d) bottom) (Arrive r d)) t
  pub stores_none : (cell : Cell) (content : Content) (next : Then)
      → s.doing p ≡ InRow (Store cell content next) → ⊥
  pub exchanges : (own bottom found : ℕ) (cell : Cell) (old new : Content) (next : Then)
      → s.doing p ≡ InRow (Exchange cell old new next)
      → IsKept i root input (exchanged i s p (kind_seat own p (Arrive r d) bottom) found cell old new next) (by_arrive s.words p r t)
  pub installs : (next : Then) → s.doing p ≡ InRow (Now next) → Ends next
      → IsKept i root input (installs s p (kind_then next)) t
  pub faults : IsKept i root input (goes s p IsLost) t
  -- and each exchange is of a cell that the frames have
  pub cells : (cell : Cell) (old new : Content) (next : Then)
      → s.doing p ≡ InRow (Exchange cell old new next) → is_cell i.shape cell ≡ true

-- in each such row, from words that are kept
abbrev pub ArriveRowKeeps : Type 0
ArriveRowKeeps = (i : Setting) → IsFair i.code
    → (root : Tree (Frame FrameWord Point) Result) (input : Words) (s : State) (t : Skeleton)
    → IsKept i root input s t
    → (p : ℕ) → p < i.shape.processors → (r : ℕ) (d : Side) → s.kind p ≡ Arrive r d
    → ArriveKeeps i root input s t p r d
