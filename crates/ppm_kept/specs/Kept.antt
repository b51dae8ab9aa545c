-- What is true of the words, the kinds and the tree after each turn, over the words by cells.
use Rattle.std.specs.Prelude.{◌≡◌, ◌⊎◌, ℕ, zero, suc, ◌+◌, ◌≤◌, ◌<◌, ◌==◌, cond, Bool, true, false, Option, Some, None}
use Rattle.ppm_strands.specs.Tree.{Words, Tree}
use Rattle.ppm_strands.specs.Run.{Counts, plus}
use Rattle.ppm_strands.specs.Ahead.{Ahead}
use Rattle.ppm_cells.specs.Cells.{pool_at}
use Rattle.ppm_cells.specs.declared.cell.Cell.{Cell}
use Rattle.ppm_cells.specs.declared.cell.Cell.TheVariants.{FinishWord, RoomCounter, BlockWord}
use Rattle.ppm_cells.specs.Finish.{finish_of, IsOutcome}
use Rattle.ppm_cells.specs.declared.finish.Finish.{Finish}
use Rattle.ppm_cells.specs.declared.finish.Finish.TheVariants.{Ended as EndedSo}
use Rattle.ppm_cells.specs.declared.link.LinkKind.TheVariants.{Root, Fork as Forked}
use Rattle.ppm_cells.specs.declared.restart.RestartKind.{RestartKind}
use Rattle.ppm_cells.specs.declared.restart.RestartKind.TheVariants.{Run, Bump, Push1, Push2, Unwind, Arrive, Join}
use Rattle.ppm_cells.specs.declared.shape.Shape.{Shape}
use Rattle.ppm_cells.specs.declared.side.Side.{Side}
use Rattle.ppm_cells.specs.declared.side.Side.TheVariants.{Left, Right}
use Rattle.ppm_strands.specs.Strand.{Frame}
use Rattle.ppm_code.specs.Sizes.{slot_at, value_at, frame_size}
use Rattle.ppm_code.specs.Strands.{Point, Result}
use Rattle.ppm_code.specs.declared.code.CodeParts.{CodeParts}
use Rattle.ppm_code.specs.declared.location.FrameWord.{FrameWord}
use Rattle.ppm_step.specs.Contents.{content_of, word_of}
use Rattle.ppm_step.specs.Frames.{Rest}
use Rattle.ppm_step.specs.Points.{cell_at, reading_at}
use Rattle.ppm_step.specs.Rows.{found_at, is_inline, row_of}
use Rattle.ppm_step.specs.declared.row.Point.TheVariants.{Header}
use Rattle.ppm_step.specs.declared.row.Row.{Row}
use Rattle.ppm_step.specs.declared.row.Row.TheVariants.{Now, Store, Exchange}
use Rattle.ppm_step.specs.declared.row.Seat.{Seat}
use Rattle.ppm_step.specs.declared.row.Then.TheVariants.{Load, Install, Begin}
use Rattle.ppm_frames.specs.Views.{place_of}
use Rattle.ppm_frames.specs.Seen.{arrays_at}
use Rattle.ppm_frames.specs.Skeletons.{Over, InPlace, Skeleton, Leaf, target_at, tree_of, count, plain, at}
use Rattle.ppm_frames.specs.Good.{link_at, Good}
use Rattle.ppm_kept.specs.Running.{HasCome, IsClean, strands}
use Rattle.ppm_kept.specs.Branches.{Unpushed, Waits, is_taker, HasCopy}

-- a shape and a code; and what is to be true of the counts so far, nothing but where it is asked what a turn counts
pub record Setting : Type 0 where
  pub shape : Shape
  pub code : CodeParts
  pub counted : Counts → Bool

-- it stays true where so much is counted
abbrev pub Allows : Setting → Counts → Type 0
Allows i k = (j : Counts) → i.counted j ≡ true → i.counted (plus j k) ≡ true

-- whatever is counted
abbrev pub AllowsAll : Setting → Type 0
AllowsAll i = (k : Counts) → Allows i k

-- where the pool of a place begins
abbrev pub start : Setting → ℕ → ℕ
start i p = pool_at i.shape p

-- where it ends
abbrev pub end_of : Setting → ℕ → ℕ
end_of i p = pool_at i.shape p + i.shape.room

-- the place whose pool has an address
abbrev pub owner : Setting → ℕ → ℕ
owner i x = place_of i.shape x

-- where the processor of a place stands
pub data Doing : Type 0 where
  Resting : Doing
  InRow : Row → Doing
  InRest : Rest → Doing

-- the words by cells, what each place is at, and where its processor stands
pub record State : Type 0 where
  pub words : Cell → ℕ
  pub kind : ℕ → RestartKind
  pub doing : ℕ → Doing

-- a function with another value at x
unfoldable pub put : {A : Type 0} → (ℕ → A) → ℕ → A → ℕ → A
put f p x q = cond (q == p) x (f q)

-- frames that run stand at one of their two headers
abbrev pub HasCopies : State → Type 0
HasCopies s = (q : ℕ) → HasCopy (s.kind q)

-- a place that is about to take a branch finds it waiting at the frame that it is to begin
abbrev pub AimsWell : State → Skeleton → Type 0
AimsWell s t = (q r f b : ℕ) → is_taker (s.kind q) ≡ true
    → s.doing q ≡ InRow (Now (Begin r f b)) → Waits r f t

-- the order word of the branch that came first
abbrev pub side_code : Side → ℕ
side_code Left = 1
side_code Right = 2

-- a seat of a place, whoever sits there
abbrev pub seat_at : (p : ℕ) → RestartKind → (bottom : ℕ) → Seat
seat_at p k b = record { own = 0; place = p; restart = record { kind = k; bottom = b } }

-- the root has come to its end
pub record Ended (m : Cell → ℕ) (t : Skeleton) : Type 0 where
  pub place : ℕ
  pub frame : ℕ
  pub slots : ℕ
  pub is : t ≡ Leaf (InPlace place) Over frame slots
  pub gave : m FinishWord ≡ m (BlockWord (frame + 1))

-- the finish word says no outcome of the root, or the root has come to that
abbrev pub NoOutcome : ℕ → Type 0
NoOutcome w = (v : Finish) → finish_of w ≡ Some v → IsOutcome v → ⊥

-- what the finish word says of the root is so
abbrev pub IsFinished : (Cell → ℕ) → Skeleton → Type 0
IsFinished m t = NoOutcome (m FinishWord) ⊎ Ended m t

-- whether a place of this kind has a strand
abbrev pub carried : (Cell → ℕ) → RestartKind → ℕ
carried m (Run f y) = 1
carried m (Bump r) = 1
carried m (Push1 r) = 1
carried m (Push2 r) = 1
carried m (Unwind f) = 1
carried m (Arrive r s) = cond (m (BlockWord (r + 1)) == side_code s) 0 1
carried m (Join r s) = cond (m (BlockWord (r + 1)) == side_code s) 0 1
carried m _ = 0

-- the value of frame f is in the slot of frame g that is named, if one is
abbrev pub HasTaken : (Cell → ℕ) → (g f : ℕ) → Option ℕ → Type 0
HasTaken m g f None = Unit {0}
HasTaken m g f (Some slot) = m (BlockWord (g + slot_at slot)) ≡ m (BlockWord (f + value_at))

-- The last branch at the install of Join, after the stores of both values: the right one is in its
-- slot, and so is the left one, unless both have one target.
pub record Collected (m : Cell → ℕ) (r : ℕ) (d : Side) (row : Row) : Type 0 where
  pub frame : ℕ
  pub copy : ℕ
  pub bottom : ℕ
  pub is : row ≡ Now (Install (record { kind = Run frame copy; bottom = bottom }))
  pub late : (m (BlockWord (r + 1)) == side_code d) ≡ false
  pub beyond : is_inline (m (BlockWord (r + 1))) d ≡ false
  pub hook : (link_at (m (BlockWord r))).kind ≡ Forked frame copy
  pub left_ended : finish_of (m (BlockWord (r + 2))) ≡ Some EndedSo
  pub right_ended : finish_of (m (BlockWord (r + 3))) ≡ Some EndedSo
  pub left : HasTaken m frame (r + 5) (target_at m (r + 5))
      ⊎ (target_at m (r + 5) ≡ target_at m (r + m (BlockWord (r + 4))))
  pub right : HasTaken m frame (r + m (BlockWord (r + 4))) (target_at m (r + m (BlockWord (r + 4))))

module _ (i : Setting) where
  -- where the free words of a place's pool begin
  abbrev pub ceiling : (Cell → ℕ) → (p : ℕ) → RestartKind → ℕ
  ceiling m p (Bump r) = r + (link_at (m (BlockWord r))).size
  ceiling m p _ = m (RoomCounter p)

  -- the words of p's pool from c on are 0
  abbrev pub Blank : (Cell → ℕ) → (p c : ℕ) → Type 0
  Blank m p c = (o : ℕ) → c + o < end_of i p → m (BlockWord (c + o)) ≡ 0

  -- the words above a place's ceiling are 0; of a frame that runs, as its earlier runs have left
  -- them
  abbrev pub Free : (Cell → ℕ) → ℕ → RestartKind → Type 0
  Free m p (Run f y) = IsClean i.shape i.code m p f y
  Free m p k = Blank m p (ceiling m p k)

  -- so many steps of a row, whose words are now as it found or left them
  abbrev pub Reach : (Cell → ℕ) → Seat → ℕ → Row → Row → Type 0
  Reach m seat zero r rest = r ≡ rest
  Reach m seat (suc n) (Now (Load point)) rest = Reach m seat n (found_at i.shape seat 0 point (content_of (reading_at point) (m (cell_at seat 0 point)))) rest
  Reach m seat (suc n) (Now next) rest = ⊥
  Reach m seat (suc n) (Store c w next) rest = (m c ≡ word_of w) × Reach m seat n (Now next) rest
  Reach m seat (suc n) (Exchange c old new next) rest = ((m c ≡ word_of old) → ⊥)
      × Reach m seat n (Now next) rest

  -- place p, at this kind, has reached a row by some steps, whatever its bottom
  abbrev pub Reached : (Cell → ℕ) → ℕ → RestartKind → Row → Type 0
  Reached m p k row = (b : ℕ) × (n : ℕ)
      × Reach m (seat_at p k b) n (row_of i.shape (seat_at p k b) k) row

  -- Of the kinds that push, pop and look for work nothing is said here. At a join the store of the
  -- right value may undo that of the left one, in one slot.
  abbrev pub Under : (Cell → ℕ) → ℕ → RestartKind → Row → Type 0
  Under m p (Run f y) row = row ≡ Now (Load (Header f y))
  Under m p (Bump r) row = Reached m p (Bump r) row
  Under m p (Unwind f) row = Reached m p (Unwind f) row
  Under m p (Arrive r d) row = Reached m p (Arrive r d) row
  Under m p (Join r d) row = Reached m p (Join r d) row ⊎ Collected m r d row
  Under m p k row = Unit {0}

  -- what is left of a capsule is what a frame at that header has come to
  abbrev pub Going : (Cell → ℕ) → ℕ → RestartKind → Rest → Type 0
  Going m p (Run f y) rest = HasCome i.shape i.code m p f y rest
  Going m p k rest = ⊥

  -- by where the processor stands
  abbrev pub Does : (Cell → ℕ) → ℕ → RestartKind → Doing → Type 0
  Does m p k Resting = Unit {0}
  Does m p k (InRow row) = Under m p k row
  Does m p k (InRest rest) = Going m p k rest

  -- a word of a pool, below its place's ceiling, that is no word of the tree but as an order word
  pub record Head (s : State) (t : Skeleton) (x : ℕ) : Type 0 where
    pub there : owner i x < i.shape.processors
    pub first : start i (owner i x) ≤ x
    pub under : x < ceiling s.words (owner i x) (s.kind (owner i x))
    pub bare : plain Root t x ≡ 0

  -- the order word at which a place arrives or joins is one of its own block, not of a frame's; at
  -- a join some branch has come
  abbrev pub Ordered : State → Skeleton → (Cell → ℕ) → RestartKind → Type 0
  Ordered s t m (Arrive r d) = Head s t (r + 1)
  Ordered s t m (Join r d) = Head s t (r + 1) × (m (BlockWord (r + 1)) ≡ 0 → ⊥)
  Ordered s t m _ = Unit {0}

  -- The tree that stands on the skeleton is ahead of the root, by whole capsules; its frames and
  -- blocks stand well, no address is two words of it, and each is one of a pool below its ceiling;
  -- a place has as many leaves as its kind has strands; words above ceilings are free; what is
  -- under way stands so; the finish word is true; frames run at their two headers; what is not
  -- pushed is not taken, and what is about to be taken waits; no place has given out more of its pool
  -- than the root's frame and the block words that are counted so far; and the counts are as is asked.
  pub record IsKept (root : Tree (Frame FrameWord Point) Result) (input : Words) (s : State) (t : Skeleton) : Type 0 where
    pub ahead : (k : Counts)
        × Ahead (strands i.shape i.code) k root input (tree_of s.words t) (arrays_at s.words)
    pub good : Good i.code s.words s.kind Root t
    pub apart : (x : ℕ) → count Root t x ≤ 1
    pub below : (x : ℕ) → (count Root t x ≡ 0 → ⊥)
        → (start i (owner i x) ≤ x) × (x < ceiling s.words (owner i x) (s.kind (owner i x)))
    pub there : (x : ℕ) → (count Root t x ≡ 0 → ⊥) → owner i x < i.shape.processors
    pub places : (p : ℕ) → at p t ≡ carried s.words (s.kind p)
    pub rooms : (p : ℕ)
        → (start i p ≤ ceiling s.words p (s.kind p)) × (ceiling s.words p (s.kind p) ≤ end_of i p)
    pub free : (p : ℕ) → Free s.words p (s.kind p)
    pub does : (p : ℕ) → Does s.words p (s.kind p) (s.doing p)
    pub orders : (p : ℕ) → Ordered s t s.words (s.kind p)
    pub finished : IsFinished s.words t
    pub copies : HasCopies s
    pub untaken : (p : ℕ) → Unpushed p t (s.kind p)
    pub aims : AimsWell s t
    pub paid : (p : ℕ) → ceiling s.words p (s.kind p)
        ≤ start i p + (frame_size i.code i.code.root + ahead.0.block_words)
    pub counted : i.counted ahead.0 ≡ true
