-- Blocks are opened upwards in each pool: those that were forked lie below what a place may still
-- open, and the one that it forks next is new.
use Rattle.std.specs.Prelude.{◌≡◌, ◌≤◌, ◌<◌, ℕ, ◌==◌, if◌then◌else◌, Bool, true, false}
use Rattle.ppm_cells.specs.declared.cell.Cell.{Cell}
use Rattle.ppm_cells.specs.declared.cell.Cell.TheVariants.{RoomCounter}
use Rattle.ppm_cells.specs.declared.restart.RestartKind.{RestartKind}
use Rattle.ppm_cells.specs.declared.restart.RestartKind.TheVariants.{Run, Bump, Push1}
use Rattle.ppm_cells.specs.declared.shape.Shape.{Shape}
use Rattle.ppm_strands.specs.Tree.{Words, Tree}
use Rattle.ppm_strands.specs.Strand.{Frame}
use Rattle.ppm_code.specs.Strands.{Point, Result}
use Rattle.ppm_code.specs.declared.location.FrameWord.{FrameWord}
use Rattle.ppm_step.specs.Frames.{Installs}
use Rattle.ppm_step.specs.Rows.{row_of}
use Rattle.ppm_step.specs.Standings.{Standing}
use Rattle.ppm_step.specs.declared.row.Point.{Point as RowPoint}
use Rattle.ppm_step.specs.declared.row.Point.TheVariants.{BumpLink, TakenMessage, TakenEntry, ClosedRestart, ClosedLink}
use Rattle.ppm_step.specs.declared.row.Row.{Row}
use Rattle.ppm_step.specs.declared.row.Row.TheVariants.{Now, Store, Exchange}
use Rattle.ppm_step.specs.declared.row.Seat.{Seat}
use Rattle.ppm_step.specs.declared.row.Then.{Then}
use Rattle.ppm_step.specs.declared.row.Then.TheVariants.{Load, Install, Fork}
use Rattle.ppm_frames.specs.Skeletons.{Skeleton}
use Rattle.ppm_kept.specs.Running.{IsFair}
use Rattle.ppm_kept.specs.Kept.{Setting, start, end_of, owner, InRow, InRest, State, IsKept}
use Rattle.ppm_kept.specs.Moves.{goes, stores, exchanges, installs, fills}
use Rattle.ppm_kept.specs.Laws.{Ends, kind_then}
use Rattle.ppm_kept.specs.Openings.{opening_of}
use Rattle.ppm_kept.specs.Pushing.{Comes}
use Rattle.ppm_kept.specs.Takes.{IsCheck}

-- from where on a place may still fork blocks in its pool: at the block that it is about to open, or
-- at its counter
abbrev pub floor : (Cell → ℕ) → (p : ℕ) → RestartKind → ℕ
floor m p (Bump r) = r
floor m p _ = m (RoomCounter p)

-- the blocks that were forked lie below, and a block that is about to be opened is one of the pool
pub record Births (i : Setting) (s : State) (born : ℕ → Bool) : Type 0 where
  pub below : (x : ℕ) → born x ≡ true → x < floor s.words (owner i x) (s.kind (owner i x))
  pub homes : (p r : ℕ) → s.kind p ≡ Bump r → (start i p ≤ r) × (r < end_of i p)

-- those blocks, and one more
abbrev pub with_block : ℕ → (ℕ → Bool) → ℕ → Bool
with_block r born x = if r == x then true else born x

-- a cell that is no counter
abbrev pub IsNoCounter : Cell → Type 0
IsNoCounter (RoomCounter q) = ⊥
IsNoCounter _ = Unit {0}

-- a kind that opens no block
abbrev pub IsSteady : RestartKind → Type 0
IsSteady (Bump r) = ⊥
IsSteady _ = Unit {0}

-- Such they are after each step of place p; and a block that it forks is new, is its own, and is
-- then one of them.
pub record BirthsStay (i : Setting) (s : State) (p : ℕ) (born : ℕ → Bool) : Type 0 where
  pub goes_on : (standing : Standing) → Births i (goes s p standing) born
  pub full : Births i (fills s p) born
  -- stores and exchanges, but of counters; the store of the own one, in Bump
  pub stored : (cell : Cell) (w : ℕ) (standing : Standing) → IsNoCounter cell
      → Births i (stores s p cell w standing) born
  pub exchanged : (cell : Cell) (old new : ℕ) (standing : Standing) → IsNoCounter cell
      → Births i (exchanges s p cell old new standing) born
  pub bumped : (r w : ℕ) (standing : Standing) → s.kind p ≡ Bump r
      → Births i (stores s p (RoomCounter p) w standing) born
  -- installs at the end of a capsule, at the end of Bump, and of a kind that opens no block by
  -- another
  pub run_installs : (f y : ℕ) (kind : RestartKind) → s.kind p ≡ Run f y
      → s.doing p ≡ InRest (Installs kind) → Births i (installs s p kind) born
  pub bump_installs : (r : ℕ) (next : Then) → s.kind p ≡ Bump r → s.doing p ≡ InRow (Now next)
      → Ends next → Births i (installs s p (kind_then next)) born
  pub installs_steady : (kind : RestartKind) → IsSteady (s.kind p) → IsSteady kind
      → Births i (installs s p kind) born
  pub forks : (q r : ℕ) → s.kind p ≡ Bump q → s.doing p ≡ InRow (Now (Fork r))
      → (q ≡ r) × (owner i r ≡ p) × (born r ≡ false)
      × Births i (installs s p (Push1 r)) (with_block r born)

-- of each place, from words that are kept, whatever blocks were forked
abbrev pub AllBirthsStay : Type 0
AllBirthsStay = (i : Setting) → IsFair i.code
    → (root : Tree (Frame FrameWord Point) Result) (input : Words) (s : State) (t : Skeleton)
    → IsKept i root input s t → (born : ℕ → Bool) → Births i s born
    → (p : ℕ) → BirthsStay i s p born

-- A row reads no link to open a block by, stores into no counter, and what it installs opens no
-- block; it forks one only where F says that it may, of a strand that it inherits.
abbrev pub IsSteadyPoint : (F : Type 0) → RowPoint → Type 0
IsSteadyPoint F (BumpLink block) = ⊥
IsSteadyPoint F (TakenMessage by victim slot) = F
IsSteadyPoint F (TakenEntry by victim slot message) = F
IsSteadyPoint F (ClosedRestart victim slot block) = F
IsSteadyPoint F (ClosedLink block) = F
IsSteadyPoint F _ = Unit {0}

abbrev pub SteadyThen : (F : Type 0) → Then → Type 0
SteadyThen F (Load point) = IsSteadyPoint F point
SteadyThen F (Install restart) = IsSteady restart.kind
SteadyThen F (Fork block) = F
SteadyThen F _ = Unit {0}

abbrev pub SteadyRow : (F : Type 0) → Row → Type 0
SteadyRow F (Now next) = SteadyThen F next
SteadyRow F (Store cell content next) = IsNoCounter cell × SteadyThen F next
SteadyRow F (Exchange cell old new next) = IsNoCounter cell × SteadyThen F next

-- the row of each kind that opens no block is steady, whatever its loads find
abbrev pub RowsAreSteady : Type 0
RowsAreSteady = (s : Shape) (seat : Seat) (n : ℕ) (k : RestartKind) (rest : Row) → IsSteady k
    → Comes s seat n (row_of s seat k) rest → SteadyRow (IsCheck k) rest

-- where a run opens none was forked
abbrev pub OpeningsHaveNone : Type 0
OpeningsHaveNone = (i : Setting) (m : Cell → ℕ) (p f : ℕ) → Births i (opening_of m p f) (λ x. false)
