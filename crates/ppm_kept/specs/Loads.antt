-- What a place loads in a row of its strand, or in a capsule, is a cell that frames have; so the
-- words by cells show what the machine's load finds.
use Rattle.std.specs.Prelude.{◌≡◌, ◌⊎◌, ◌<◌, ℕ, true}
use Rattle.ppm_strands.specs.Tree.{Words, Tree}
use Rattle.ppm_cells.specs.declared.cell.Cell.{Cell}
use Rattle.ppm_cells.specs.declared.cell.Cell.TheVariants.{RoomCounter, BlockWord}
use Rattle.ppm_cells.specs.declared.restart.RestartKind.{RestartKind}
use Rattle.ppm_cells.specs.declared.restart.RestartKind.TheVariants.{Run}
use Rattle.ppm_strands.specs.Strand.{Frame}
use Rattle.ppm_code.specs.Strands.{Point, Result}
use Rattle.ppm_code.specs.declared.location.FrameWord.{FrameWord}
use Rattle.ppm_step.specs.Frames.{Rest, Loads}
use Rattle.ppm_step.specs.Points.{cell_at, header_word}
use Rattle.ppm_step.specs.There.{is_there}
use Rattle.ppm_step.specs.declared.row.Point.{Point as RowPoint}
use Rattle.ppm_step.specs.declared.row.Row.TheVariants.{Now}
use Rattle.ppm_step.specs.declared.row.Then.TheVariants.{Load}
use Rattle.ppm_frames.specs.Views.{is_cell}
use Rattle.ppm_frames.specs.Skeletons.{Skeleton}
use Rattle.ppm_kept.specs.Running.{IsFair}
use Rattle.ppm_kept.specs.Kept.{Setting, owner, InRow, InRest, State, ceiling, IsKept}
use Rattle.ppm_kept.specs.Copies.{IsKnown}
use Rattle.ppm_kept.specs.Pushing.{kind_seat}

-- a block word that some place has given out, or one of the own pool; of counters the own
abbrev pub IsInUse : Setting → State → (p : ℕ) → Cell → Type 0
IsInUse i s p (BlockWord x) = (x < ceiling i s.words (owner i x) (s.kind (owner i x))) ⊎ (owner i x ≡ p)
IsInUse i s p (RoomCounter q) = q ≡ p
IsInUse i s p cell = Unit {0}

-- a cell that frames have, and such a one
pub record IsLoadable (i : Setting) (s : State) (p : ℕ) (cell : Cell) : Type 0 where
  pub cell_is : is_cell i.shape cell ≡ true
  pub in_use : IsInUse i s p cell

-- of a place
pub record LoadsShow (i : Setting) (s : State) (p : ℕ) : Type 0 where
  -- the header with which a capsule begins, and what the capsule loads, where it is there
  pub headers : (f y : ℕ) → s.kind p ≡ Run f y → IsLoadable i s p (header_word f y)
  pub capsules : (f y : ℕ) (cell : Cell) (next : ℕ → Rest) → s.kind p ≡ Run f y
      → s.doing p ≡ InRest (Loads cell next) → is_there i.shape cell ≡ true
      → IsLoadable i s p cell
  -- and what a row loads of which it is said how it was reached
  pub rows : (k : RestartKind) → IsKnown k → s.kind p ≡ k → (own bottom victim : ℕ)
      (point : RowPoint) → s.doing p ≡ InRow (Now (Load point))
      → IsLoadable i s p (cell_at (kind_seat own p k bottom) victim point)

-- of each place, from words that are kept
abbrev pub AllLoadsShow : Type 0
AllLoadsShow = (i : Setting) → IsFair i.code
    → (root : Tree (Frame FrameWord Point) Result) (input : Words) (s : State) (t : Skeleton)
    → IsKept i root input s t
    → (p : ℕ) → p < i.shape.processors → LoadsShow i s p
