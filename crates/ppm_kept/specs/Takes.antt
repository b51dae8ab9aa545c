-- The rows of places without a strand: they pop, look for work, take a place over, and begin a right
-- branch that they popped or took.
use Rattle.std.specs.Prelude.{◌≡◌, ◌≢◌, ◌⊎◌, ◌<◌, ℕ, true, false}
use Rattle.ppm_strands.specs.Tree.{Words, Tree}
use Rattle.ppm_cells.specs.declared.cell.Cell.{Cell}
use Rattle.ppm_cells.specs.declared.restart.RestartKind.{RestartKind}
use Rattle.ppm_cells.specs.declared.restart.RestartKind.TheVariants.{Run, Check}
use Rattle.ppm_cells.specs.declared.shape.Takeover.{Takeover}
use Rattle.ppm_cells.specs.declared.shape.Takeover.TheVariants.{ByEntries}
use Rattle.ppm_strands.specs.Strand.{Frame}
use Rattle.ppm_code.specs.Strands.{Point, Result}
use Rattle.ppm_code.specs.declared.location.FrameWord.{FrameWord}
use Rattle.ppm_step.specs.Rows.{row_of}
use Rattle.ppm_step.specs.Standings.{IsLost, stands, went_row}
use Rattle.ppm_step.specs.declared.content.Content.{Content}
use Rattle.ppm_step.specs.declared.row.Point.TheVariants.{Offset}
use Rattle.ppm_step.specs.declared.row.Row.{Row}
use Rattle.ppm_step.specs.declared.row.Row.TheVariants.{Now, Store, Exchange}
use Rattle.ppm_step.specs.declared.row.Then.{Then}
use Rattle.ppm_step.specs.declared.row.Then.TheVariants.{Install, Fork, Begin}
use Rattle.ppm_frames.specs.Views.{is_cell}
use Rattle.ppm_frames.specs.Skeletons.{Skeleton, take_in}
use Rattle.ppm_kept.specs.Running.{IsFair}
use Rattle.ppm_kept.specs.Branches.{Waits, is_taker}
use Rattle.ppm_kept.specs.Kept.{Setting, InRow, State, IsKept}
use Rattle.ppm_kept.specs.Moves.{goes, installs, loaded, exchanged_unseen}
use Rattle.ppm_kept.specs.Laws.{Ends}
use Rattle.ppm_kept.specs.Others.{IsIdle}
use Rattle.ppm_kept.specs.Pushing.{Comes, kind_seat}

-- the right branch of block r waits for a taker. The deque's half says so of each branch that is a
-- job, was got back, or was stolen
abbrev pub IsWaiting : Skeleton → (r : ℕ) → Type 0
IsWaiting t r = (f : ℕ) × Waits r f t

-- no other place is about to begin it. The deque's half says so, since a branch is at one place
abbrev pub IsAlone : State → (p r : ℕ) → Type 0
IsAlone s p r = (q f b : ℕ) → q ≢ p → is_taker (s.kind q) ≡ true
    → s.doing q ≡ InRow (Now (Begin r f b)) → ⊥

-- what a place goes on with in the row of a closed place, which it has inherited: with takeover by
-- entries alone
abbrev pub IsCheck : RestartKind → Type 0
IsCheck (Check v x) = Unit {0}
IsCheck _ = ⊥

abbrev pub Follows : Takeover → RestartKind → Type 0
Follows how k = (how ≡ ByEntries) × IsCheck k

-- how the row of a kind ends: it goes on looking, begins a branch, or goes on with what it inherited
abbrev pub EndsSo : Takeover → RestartKind → Then → Type 0
EndsSo how k (Install restart) = IsIdle restart.kind ⊎ Follows how k
EndsSo how k (Fork block) = Follows how k
EndsSo how k (Begin block frame bottom) = is_taker k ≡ true
EndsSo how k _ = Unit {0}

-- Each step of a place in a row of a kind without a strand keeps all, but for where it goes on with
-- what it inherited; the strand of a branch that it begins is then the place's
pub record TakeKeeps (i : Setting) (root : Tree (Frame FrameWord Point) Result) (input : Words) (s : State) (t : Skeleton) (p : ℕ) (k : RestartKind) : Type 0 where
  -- it begins, or goes on by a load: if it is then about to begin a branch, that waits there
  pub loads : (own bottom : ℕ) (rest : Row) → ((r f b : ℕ) → rest ≡ Now (Begin r f b) → Waits r f t)
      → IsKept i root input (goes s p (stands i.shape i.code (kind_seat own p k bottom) rest)) t
  -- as it is by the load of the offset of a branch that waits
  pub offsets : (own bottom victim r b : ℕ) → IsWaiting t r
      → IsKept i root input (loaded i s p (kind_seat own p k bottom) victim (Offset r b)) t
  -- what it stores and exchanges is of no cell that frames have
  pub stores : (own bottom n found : ℕ) (cell : Cell) (content : Content) (next : Then)
      → Comes i.shape (kind_seat own p k bottom) n (row_of i.shape (kind_seat own p k bottom) k) (Store cell content next)
      → (is_cell i.shape cell ≡ false)
      × IsKept i root input (goes s p (went_row i.shape i.code (kind_seat own p k bottom) found found (Store cell content next))) t
  pub exchanges : (own bottom n found : ℕ) (cell : Cell) (old new : Content) (next : Then)
      → Comes i.shape (kind_seat own p k bottom) n (row_of i.shape (kind_seat own p k bottom) k) (Exchange cell old new next)
      → (is_cell i.shape cell ≡ false)
      × IsKept i root input (exchanged_unseen i s p (kind_seat own p k bottom) found cell old new next) t
  pub ends : (own bottom n : ℕ) (next : Then) → Ends next
      → Comes i.shape (kind_seat own p k bottom) n (row_of i.shape (kind_seat own p k bottom) k) (Now next)
      → EndsSo i.shape.takeover k next
  -- the branch is the place's
  pub begins : (r f b : ℕ) → is_taker k ≡ true → s.doing p ≡ InRow (Now (Begin r f b))
      → IsAlone s p r → IsKept i root input (installs s p (Run f 0)) (take_in r p t)
  pub installs : (next : RestartKind) → IsIdle next → IsKept i root input (installs s p next) t
  pub faults : IsKept i root input (goes s p IsLost) t

-- in each row of such a kind, from words that are kept
abbrev pub TakeRowsKeep : Type 0
TakeRowsKeep = (i : Setting) → IsFair i.code
    → (root : Tree (Frame FrameWord Point) Result) (input : Words) (s : State) (t : Skeleton)
    → IsKept i root input s t
    → (p : ℕ) → p < i.shape.processors → (k : RestartKind) → s.kind p ≡ k → IsIdle k
    → TakeKeeps i root input s t p k
