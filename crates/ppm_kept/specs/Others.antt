-- What a step of one place may write, and what it leaves at the others.
use Rattle.std.specs.Prelude.{◌≡◌, ◌≢◌, ◌⊎◌, ◌≤◌, ◌<◌, ℕ, ◌+◌, None}
use Rattle.ppm_strands.specs.Tree.{Words, Tree, Has}
use Rattle.ppm_cells.specs.declared.cell.Cell.{Cell}
use Rattle.ppm_cells.specs.declared.cell.Cell.TheVariants.{FinishWord, RoomCounter, BlockWord, ArrayWord}
use Rattle.ppm_cells.specs.declared.link.LinkKind.{LinkKind}
use Rattle.ppm_cells.specs.declared.link.LinkKind.TheVariants.{Root, Branch}
use Rattle.ppm_cells.specs.declared.restart.RestartKind.{RestartKind}
use Rattle.ppm_cells.specs.declared.restart.RestartKind.TheVariants.{Pop1, Pop2, Seek, Steal, Check, Take, Take2}
use Rattle.ppm_strands.specs.Strand.{Frame}
use Rattle.ppm_code.specs.Strands.{Point, Result}
use Rattle.ppm_code.specs.declared.location.FrameWord.{FrameWord}
use Rattle.ppm_frames.specs.Views.{written as write}
use Rattle.ppm_frames.specs.Seen.{arrays_at}
use Rattle.ppm_frames.specs.Skeletons.{Begins, InPlace, Skeleton, Leaf, frame_at, plain, at, Around, plug, hook_at, at_rim}
use Rattle.ppm_kept.specs.Running.{IsFair, strands}
use Rattle.ppm_kept.specs.Kept.{Setting, State, side_code, end_of, carried, ceiling, Free, Does, Ordered, IsKept}

-- what a step of p leaves as it is at another place
pub record KeptAt (i : Setting) (s : State) (t : Skeleton) (n : Cell → ℕ) (q : ℕ) : Type 0 where
  pub roof : ceiling i n q (s.kind q) ≡ ceiling i s.words q (s.kind q)
  pub strand : carried n (s.kind q) ≡ carried s.words (s.kind q)
  pub free : Free i n q (s.kind q)
  pub does : Does i n q (s.kind q) (s.doing q)
  pub order : Ordered i s t n (s.kind q)

-- the cells that a step of a place may write: words of the part that only it works on, free words
-- of its pool, its counter, and array words of its capsule
abbrev pub Wrote : Setting → (Cell → ℕ) → Skeleton → ℕ → Type 0
Wrote i m (Leaf (InPlace q) (Begins y) f n) x = Has x ((strands i.shape i.code).writes (frame_at m f n y None None) (arrays_at m))
Wrote i m _ x = ⊥

-- with u the part at which place p works, hung on h
abbrev pub Mine : Setting → State → ℕ → LinkKind → Skeleton → Cell → Type 0
Mine i s p h u (BlockWord x) = (1 ≤ plain h u x)
    ⊎ ((ceiling i s.words p (s.kind p) ≤ x) × (x < end_of i p))
Mine i s p h u (RoomCounter q) = q ≡ p
Mine i s p h u (ArrayWord x) = Wrote i s.words u x
Mine i s p h u FinishWord = s.words FinishWord ≡ 0
Mine i s p h u _ = ⊥

-- the store of an order word by a branch that hangs on it: from 0, or of what stands there
abbrev pub Claims : (Cell → ℕ) → LinkKind → Cell → ℕ → Type 0
Claims m (Branch d r) (BlockWord x) w = (x ≡ r + 1)
    × ((m (BlockWord x) ≡ 0) ⊎ (m (BlockWord x) ≡ w)) × ((w ≡ side_code d) ⊎ (w ≡ 3))
Claims m _ _ w = ⊥

-- what the other places keep of a step of p
abbrev pub Keeps : Setting → State → Skeleton → ℕ → Type 0
Keeps i s t p = (c : Around) (u : Skeleton) (cell : Cell) (w : ℕ) → t ≡ plug c u → at_rim p c ≡ 0
    → ((q : ℕ) → q ≢ p → at q u ≡ 0) → 1 ≤ at p u
    → Mine i s p (hook_at Root c) u cell ⊎ Claims s.words (hook_at Root c) cell w
    → (q : ℕ) → q ≢ p → KeptAt i s t (write s.words cell w) q

-- a place without a strand
abbrev pub IsIdle : RestartKind → Type 0
IsIdle Pop1 = Unit {0}
IsIdle (Pop2 r) = Unit {0}
IsIdle Seek = Unit {0}
IsIdle (Steal v i) = Unit {0}
IsIdle (Check v i) = Unit {0}
IsIdle (Take v d) = Unit {0}
IsIdle (Take2 v) = Unit {0}
IsIdle _ = ⊥

-- places keep all that they have, whatever another place stores
abbrev pub OthersKeep : Type 0
OthersKeep = (i : Setting) → IsFair i.code
    → (root : Tree (Frame FrameWord Point) Result) (input : Words) (s : State) (t : Skeleton)
    → IsKept i root input s t
    → (p : ℕ) → Keeps i s t p
