-- The rows that push a fork: Push1 and Push2.
use Rattle.std.specs.Prelude.{◌≡◌, ◌≤◌, ◌<◌, ℕ, zero, suc, ◌+◌, true}
use Rattle.ppm_strands.specs.Tree.{Words, Tree}
use Rattle.ppm_cells.specs.declared.cell.Cell.{Cell}
use Rattle.ppm_cells.specs.declared.cell.Cell.TheVariants.{EntryWord, BlockWord}
use Rattle.ppm_cells.specs.declared.link.LinkKind.{LinkKind}
use Rattle.ppm_cells.specs.declared.restart.RestartKind.{RestartKind}
use Rattle.ppm_cells.specs.declared.restart.RestartKind.TheVariants.{Push1, Push2}
use Rattle.ppm_cells.specs.declared.shape.Shape.{Shape}
use Rattle.ppm_strands.specs.Strand.{Frame}
use Rattle.ppm_code.specs.Strands.{Point, Result}
use Rattle.ppm_code.specs.declared.location.FrameWord.{FrameWord}
use Rattle.ppm_step.specs.Contents.{word_of}
use Rattle.ppm_step.specs.Rows.{found_at, row_of}
use Rattle.ppm_step.specs.Standings.{IsLost, stands}
use Rattle.ppm_step.specs.declared.content.Content.{Content}
use Rattle.ppm_step.specs.declared.row.Row.{Row}
use Rattle.ppm_step.specs.declared.row.Row.TheVariants.{Now, Store, Exchange}
use Rattle.ppm_step.specs.declared.row.Seat.{Seat}
use Rattle.ppm_step.specs.declared.row.Then.{Then}
use Rattle.ppm_step.specs.declared.row.Then.TheVariants.{Load}
use Rattle.ppm_frames.specs.Views.{is_cell}
use Rattle.ppm_frames.specs.Skeletons.{Waiting, Held, Skeleton, Forking, pushed, over_left, count, at, Around, plug, hook_at}
use Rattle.ppm_frames.specs.Good.{mark}
use Rattle.ppm_kept.specs.Running.{IsFair}
use Rattle.ppm_kept.specs.Branches.{IsUntaken, Untaken}
use Rattle.ppm_kept.specs.Kept.{Setting, State, IsKept}
use Rattle.ppm_kept.specs.Moves.{goes, installs, stored, exchanged_unseen}
use Rattle.ppm_kept.specs.Laws.{Ends, kind_then}

-- how a row comes to what is left of it, whatever its loads find: entries are not in the view
abbrev pub Comes : Shape → Seat → ℕ → Row → Row → Type 0
Comes s seat zero r rest = r ≡ rest
Comes s seat (suc n) (Now (Load point)) rest = (victim : ℕ) × (w : Content)
    × Comes s seat n (found_at s seat victim point w) rest
Comes s seat (suc n) (Now next) rest = ⊥
Comes s seat (suc n) (Store c w next) rest = Comes s seat n (Now next) rest
Comes s seat (suc n) (Exchange c old new next) rest = Comes s seat n (Now next) rest

-- a seat at a row of any kind
abbrev pub kind_seat : (own place : ℕ) → RestartKind → (bottom : ℕ) → Seat
kind_seat own p k bottom = record { own = own; place = p; restart = record { kind = k; bottom = bottom } }

-- a right branch that nobody has and nobody may take is beside a place's strand, in the fork of
-- block r
abbrev pub MayHold : Skeleton → (p r : ℕ) → Type 0
MayHold t p r = (c : Around) (f n y : ℕ) (a b : Skeleton) → t ≡ plug c (Forking f n y r a b)
    → 1 ≤ at p a → IsUntaken (mark b)

-- `Untaken` is what this says, and stays where a part is swapped for another that has it, with as many
-- leaves of the place and the same mark, as in each step
pub record UntakenStays (p r : ℕ) : Type 0 where
  pub holds : (t : Skeleton) → Untaken p r t → MayHold t p r
  pub swaps : (c : Around) (u v : Skeleton) → at p v ≡ at p u → mark v ≡ mark u → Untaken p r v
      → Untaken p r (plug c u) → Untaken p r (plug c v)
  -- `Untaken` stays where a block is opened, since no other fork of the tree has it
  pub opens : (h : LinkKind) (c : Around) (v : Skeleton) → count h (plug c v) r ≤ 1
      → 1 ≤ count (hook_at h c) v r → Untaken p r v → Untaken p r (plug c v)

-- of each place and block
abbrev pub AllUntakenStays : Type 0
AllUntakenStays = (p r : ℕ) → UntakenStays p r

-- Each step of a place in a row of kind Push1: at the last slot the strand of the left branch is to
-- run the right one
pub record Push1Keeps (i : Setting) (root : Tree (Frame FrameWord Point) Result) (input : Words) (s : State) (t : Skeleton) (p r : ℕ) : Type 0 where
  -- it begins, or goes on by a load
  pub loads : (own bottom : ℕ) (rest : Row)
      → IsKept i root input (goes s p (stands i.shape i.code (kind_seat own p (Push1 r) bottom) rest)) t
  pub stores : (own bottom n found : ℕ) (cell : Cell) (content : Content) (next : Then)
      → Comes i.shape (kind_seat own p (Push1 r) bottom) n (row_of i.shape (kind_seat own p (Push1 r) bottom) (Push1 r)) (Store cell content next)
      → (cell ≡ BlockWord (r + 1)) × (word_of content ≡ 3)
      × IsKept i root input (stored i s p (kind_seat own p (Push1 r) bottom) found cell content next) (over_left p (pushed Held) t)
      × (is_cell i.shape cell ≡ true)
  -- an exchange of an entry is not seen
  pub exchanges : (own bottom n found : ℕ) (cell : Cell) (old new : Content) (next : Then)
      → Comes i.shape (kind_seat own p (Push1 r) bottom) n (row_of i.shape (kind_seat own p (Push1 r) bottom) (Push1 r)) (Exchange cell old new next)
      → (cell ≡ EntryWord p (bottom + 1))
      × IsKept i root input (exchanged_unseen i s p (kind_seat own p (Push1 r) bottom) found cell old new next) t
  pub installs : (own bottom n : ℕ) (next : Then) → Ends next
      → Comes i.shape (kind_seat own p (Push1 r) bottom) n (row_of i.shape (kind_seat own p (Push1 r) bottom) (Push1 r)) (Now next)
      → IsKept i root input (installs s p (kind_then next)) t
  pub faults : IsKept i root input (goes s p IsLost) t

-- a row of kind Push2 keeps all: with the entry at the bottom the right branch becomes one that may be
-- taken
pub record Push2Keeps (i : Setting) (root : Tree (Frame FrameWord Point) Result) (input : Words) (s : State) (t : Skeleton) (p r : ℕ) : Type 0 where
  pub loads : (own bottom : ℕ) (rest : Row)
      → IsKept i root input (goes s p (stands i.shape i.code (kind_seat own p (Push2 r) bottom) rest)) t
  pub stores_none : (own bottom n : ℕ) (cell : Cell) (content : Content) (next : Then)
      → Comes i.shape (kind_seat own p (Push2 r) bottom) n (row_of i.shape (kind_seat own p (Push2 r) bottom) (Push2 r)) (Store cell content next) → ⊥
  pub exchanges : (own bottom n found : ℕ) (cell : Cell) (old new : Content) (next : Then)
      → Comes i.shape (kind_seat own p (Push2 r) bottom) n (row_of i.shape (kind_seat own p (Push2 r) bottom) (Push2 r)) (Exchange cell old new next)
      → (cell ≡ EntryWord p bottom)
      × IsKept i root input (exchanged_unseen i s p (kind_seat own p (Push2 r) bottom) found cell old new next) t
      × IsKept i root input (exchanged_unseen i s p (kind_seat own p (Push2 r) bottom) found cell old new next) (over_left p (pushed Waiting) t)
  pub installs : (own bottom n : ℕ) (next : Then) → Ends next
      → Comes i.shape (kind_seat own p (Push2 r) bottom) n (row_of i.shape (kind_seat own p (Push2 r) bottom) (Push2 r)) (Now next)
      → IsKept i root input (installs s p (kind_then next)) t
  pub faults : IsKept i root input (goes s p IsLost) t

-- in each such row, from words that are kept
abbrev pub Push1RowKeeps : Type 0
Push1RowKeeps = (i : Setting) → IsFair i.code
    → (root : Tree (Frame FrameWord Point) Result) (input : Words) (s : State) (t : Skeleton)
    → IsKept i root input s t
    → (p : ℕ) → p < i.shape.processors → (r : ℕ) → s.kind p ≡ Push1 r
    → Push1Keeps i root input s t p r

-- in each such row, from words that are kept
abbrev pub Push2RowKeeps : Type 0
Push2RowKeeps = (i : Setting) → IsFair i.code
    → (root : Tree (Frame FrameWord Point) Result) (input : Words) (s : State) (t : Skeleton)
    → IsKept i root input s t
    → (p : ℕ) → p < i.shape.processors → (r : ℕ) → s.kind p ≡ Push2 r
    → Push2Keeps i root input s t p r
